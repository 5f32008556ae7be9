-- The report: how a state came to rest, and all that it holds.
use Rattle.std.specs.Prelude.{ℕ, ◌+◌, ◌*◌, Option, Some, List, [], ◌∷◌, ◌++◌, codes, length, map, slice_get, slice_index}
use Rattle.std.specs.List.{flat_map, range_with_len, enumerate_from}
use Rattle.raw_grid.specs.declared.parts.PortPlace.{PortPlace}
use Rattle.raw_grid.specs.Topology.{tile_count}
use Rattle.raw_grid.specs.Wires.{tiles_of, wires_of}
use Rattle.raw_model.specs.declared.program.Show.{Show}
use Rattle.raw_model.specs.Program.{ProgramSet}
use Rattle.raw_model.specs.Local.{Local, Tile, Switch, Source, Sink}
use Rattle.raw_model.specs.TileTable.{word_at}
use Rattle.raw_model.specs.Start.{MachineState, start}
use Rattle.raw_model.specs.Rest.{end}
use Rattle.raw_model.specs.Cache.{touches_of, misses, turns, stream_of}
use Rattle.raw_model.specs.Outcomes.{Outcome, outcome, chain, chain_end}
use Rattle.raw_model.specs.Outcomes.Outcome.{Done, Deadlock, Trapped, Limit, Stuck}
use Rattle.raw_model.specs.StateTexts.{mark_of, wait_line, registers_line, wire_line}
use Rattle.raw_model.specs.Parts.{count_in, memory_of}
use Rattle.raw_report.specs.Locals.{trap_at}
use Rattle.raw_report.specs.Lines.{deadlock_head, trapped_line, limit_line, ends_line, source_line, sink_head, word_line, tile_head, memory_word_line, switch_line, stall_text}

-- the first lines: the outcome, and the waits that tell why
unfoldable pub outcome_lines : ProgramSet → MachineState → Outcome → List ℕ
outcome_lines set s Done = codes "outcome done\n"
outcome_lines set s (Deadlock p ps) =
    deadlock_head (length ps + 1) ++ flat_map (wait_line set s) (p ∷ ps)
outcome_lines set s (Trapped p) = trapped_line p (trap_at (slice_get s.locals p))
outcome_lines set s (Limit p) = limit_line p (count_in (slice_get s.locals p))
outcome_lines set s (Stuck p) =
    codes "outcome stuck\n" ++ flat_map (wait_line set s) (chain set s p) ++ ends_line (chain_end set s p) (mark_of set s (chain_end set s p))

-- the line of each word that a sink has taken out
abbrev pub word_lines : List ℕ → List ℕ
word_lines words = flat_map word_line words

-- the lines of the port that is processor p and stands at this place
abbrev pub port_lines_of : ProgramSet → MachineState → ℕ → PortPlace → Option Local → List ℕ
port_lines_of set s p place (Some (Source l)) = source_line place (mark_of set s p) l.done
port_lines_of set s p place (Some (Sink l)) = sink_head place (mark_of set s p) l.done ++ word_lines l.got
port_lines_of set s p place _ = []

-- the lines of the ports, in order; ports stand behind tiles and switches
unfoldable pub port_lines : ProgramSet → MachineState → List ℕ
port_lines set s =
    flat_map (λ port. port_lines_of set s port.0 port.1 (slice_get s.locals port.0)) (enumerate_from (2 * tile_count set.topo) set.topo.places)

-- the lines of a tile with this local state
abbrev pub tile_lines_of : ProgramSet → MachineState → ℕ → Option Local → List ℕ
tile_lines_of set s tile (Some (Tile l)) =
    tile_head set.topo tile (mark_of set s tile) l
    ++ registers_line l.regs 0 ++ registers_line l.regs 8 ++ registers_line l.regs 16 ++ registers_line l.regs 24
tile_lines_of set s tile _ = []

-- the lines of the tiles, by rising number
unfoldable pub tile_lines : ProgramSet → MachineState → List ℕ
tile_lines set s = flat_map (λ tile. tile_lines_of set s tile (slice_get s.locals tile)) (tiles_of set.topo)

-- the line of the word at an address of a tile's memory
abbrev pub memory_line : ProgramSet → MachineState → ℕ → ℕ → List ℕ
memory_line set s tile address = memory_word_line set.topo tile address (word_at (memory_of (slice_get s.locals tile)) address)

-- the lines of the words that a show names
abbrev pub show_lines_of : ProgramSet → MachineState → Show → List ℕ
show_lines_of set s show = flat_map (λ k. memory_line set s show.tile (show.address + 4 * k)) (range_with_len 0 show.words)

-- the lines of all shows, in order
unfoldable pub show_lines : ProgramSet → MachineState → List ℕ
show_lines set s = flat_map (show_lines_of set s) set.shows

-- the line of the switch beside a tile, with this local state
abbrev pub switch_line_of : ProgramSet → MachineState → ℕ → Option Local → List ℕ
switch_line_of set s tile (Some (Switch l)) = switch_line set.topo tile (mark_of set s (tile_count set.topo + tile)) l
switch_line_of set s tile _ = []

-- the lines of the switches, by rising number
unfoldable pub switch_lines : ProgramSet → MachineState → List ℕ
switch_lines set s = flat_map (λ tile. switch_line_of set s tile (slice_get s.locals (tile_count set.topo + tile))) (tiles_of set.topo)

-- the lines of the wires that are not empty, by rising number
unfoldable pub wire_lines : ProgramSet → MachineState → List ℕ
wire_lines set s = flat_map (wire_line s) (range_with_len 0 (length (wires_of set.topo)))

-- the line of a tile that missed so often: its misses, and the stall turns that they cost
abbrev pub stall_line : ProgramSet → ℕ → ℕ → List ℕ
stall_line set tile missed = stall_text set.topo tile missed (turns (stream_of set tile) missed)

-- the lines of the stalls, where the tiles missed so often
unfoldable pub stall_lines : ProgramSet → List ℕ → List ℕ
stall_lines set missed = flat_map (λ tile. stall_line set tile (slice_index missed tile)) (tiles_of set.topo)

-- the report of a quiet state in which the tiles missed so often
unfoldable pub report_of : ProgramSet → MachineState → List ℕ → List ℕ
report_of set s missed =
    outcome_lines set s (outcome set s) ++ port_lines set s ++ tile_lines set s ++ show_lines set s ++ switch_lines set s ++ wire_lines set s
    ++ stall_lines set missed

-- how often each tile missed in a list of steps from the start
abbrev pub missed_by : ProgramSet → List ℕ → List ℕ
missed_by set steps = map (λ tile. misses (touches_of set (start set) steps tile)) (tiles_of set.topo)

-- the report of a list of steps from the start: it reads nothing of the list but its end and its touches
unfoldable pub report : ProgramSet → List ℕ → List ℕ
report set steps = report_of set (end set steps) (missed_by set steps)
