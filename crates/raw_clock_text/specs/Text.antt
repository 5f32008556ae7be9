-- The text of the clock of a set that has n cycles: how it came to rest, how each processor spent the cycles, for which
-- wires it waited, and how many values passed on each wire.
use Rattle.std.specs.Prelude.{ℕ, ◌+◌, ◌*◌, List, ◌++◌, length}
use Rattle.std.specs.List.{flat_map, range_with_len, enumerate_from}
use Rattle.raw_grid.specs.declared.parts.PortPlace.{PortPlace}
use Rattle.raw_grid.specs.Topology.{tile_count, proc_count}
use Rattle.raw_grid.specs.Wires.{tiles_of, wires_of}
use Rattle.raw_model.specs.Program.{ProgramSet}
use Rattle.raw_model.specs.Waits.{inputs_at, outputs_at, other_end}
use Rattle.raw_model.specs.Outcomes.{outcome}
use Rattle.raw_report.specs.Report.{outcome_lines}
use Rattle.raw_clock.specs.declared.tally.Spent.{Spent}
use Rattle.raw_clock.specs.Clock.{machine_at, clock, is_fired, is_stalled, is_starved, is_blocked, is_stop, spent, waited, passed_in, program_steps}
use Rattle.raw_clock_text.specs.Lines.{cycles_line, tile_line, switch_line, port_line, wait_line, passed_line}

-- how processor p spent the first n cycles
abbrev pub spent_by : ProgramSet → ℕ → ℕ → Spent
spent_by set n p =
    record {
      fired = spent set n p is_fired;
      stalled = spent set n p is_stalled;
      starved = spent set n p (is_starved set p);
      blocked = spent set n p (is_blocked set p);
      stopped = spent set n p is_stop;
    }

-- the line of a tile, and of the switch beside it
abbrev pub tile_text : ProgramSet → ℕ → ℕ → List ℕ
tile_text set n tile = tile_line set.topo tile (spent_by set n tile)

abbrev pub switch_text : ProgramSet → ℕ → ℕ → List ℕ
switch_text set n tile = switch_line set.topo tile (spent_by set n (tile_count set.topo + tile))

-- the line of the port that is this processor and stands at this place
abbrev pub port_text : ProgramSet → ℕ → ℕ × PortPlace → List ℕ
port_text set n port = port_line port.1 (spent_by set n port.0)

-- the lines of the tiles, by rising number
unfoldable pub tile_lines : ProgramSet → ℕ → List ℕ
tile_lines set n = flat_map (tile_text set n) (tiles_of set.topo)

-- the lines of the switches, by rising number
unfoldable pub switch_lines : ProgramSet → ℕ → List ℕ
switch_lines set n = flat_map (switch_text set n) (tiles_of set.topo)

-- the lines of the ports, in order; ports stand behind tiles and switches
unfoldable pub port_lines : ProgramSet → ℕ → List ℕ
port_lines set n = flat_map (port_text set n) (enumerate_from (2 * tile_count set.topo) set.topo.places)

-- the line of the waits of processor p for one of its wires
abbrev pub wire_waits : ProgramSet → ℕ → ℕ → ℕ → List ℕ
wire_waits set n p w = wait_line p w (other_end set.topo p w) (waited set n p w)

-- the lines of the waits of processor p, for its inputs and then for its outputs
abbrev pub waits_of : ProgramSet → ℕ → ℕ → List ℕ
waits_of set n p = flat_map (wire_waits set n p) (inputs_at set.topo p) ++ flat_map (wire_waits set n p) (outputs_at set.topo p)

-- the lines of the waits, by the processors
unfoldable pub wait_lines : ProgramSet → ℕ → List ℕ
wait_lines set n = flat_map (waits_of set n) (range_with_len 0 (proc_count set.topo))

-- the line of what passed on a wire
abbrev pub passed_text : ProgramSet → ℕ → ℕ → List ℕ
passed_text set n w = passed_line w (passed_in set n w)

-- the lines of what passed on the wires, by rising number
unfoldable pub passed_lines : ProgramSet → ℕ → List ℕ
passed_lines set n = flat_map (passed_text set n) (range_with_len 0 (length (wires_of set.topo)))

-- how it came to rest, in how many cycles, and how each processor spent them; it begins as the report does
unfoldable pub spending_text : ProgramSet → ℕ → List ℕ
spending_text set n =
    outcome_lines set (machine_at (clock set n)) (outcome set (machine_at (clock set n)))
    ++ cycles_line n (program_steps set n) ++ tile_lines set n ++ switch_lines set n ++ port_lines set n

-- for which wires the processors waited, and what passed on the wires
unfoldable pub waiting_text : ProgramSet → ℕ → List ℕ
waiting_text set n = wait_lines set n ++ passed_lines set n

-- the whole text
unfoldable pub cycles_text : ProgramSet → ℕ → List ℕ
cycles_text set n = spending_text set n ++ waiting_text set n
