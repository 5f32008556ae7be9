-- How many steps a machine takes at most.
use Rattle.std.specs.Prelude.{ℕ, ◌+◌, ◌-◌, ◌*◌, length, sum_by}
use Rattle.raw_network.specs.Laws.{total}
use Rattle.raw_grid.specs.Topology.{tile_count}
use Rattle.raw_model.specs.Program.{ProgramSet, PortProgram}
use Rattle.raw_model.specs.Local.{Local, Tile, Switch, Source, Sink}
use Rattle.raw_model.specs.Machine.{port_program, words_of, capacity_of}
use Rattle.raw_model.specs.Start.{MachineState}

-- how many steps a processor has left at most: a tile or switch the instructions up to the limit, a source
-- the words that it has not sent, a sink the room that it has left
abbrev pub steps_left : ProgramSet → ℕ → Local → ℕ
steps_left set p (Tile l) = set.limit - l.count
steps_left set p (Switch l) = set.limit - l.count
steps_left set p (Source l) = length (words_of (port_program set p)) - l.done
steps_left set p (Sink l) = capacity_of (port_program set p) - l.done

-- how many steps all processors of a state have left at most
abbrev pub all_left : ProgramSet → MachineState → ℕ
all_left set s = total (steps_left set) s

-- the words of all sources together, and the capacities of all sinks
abbrev pub all_words : ProgramSet → ℕ
all_words set = sum_by (λ (port : PortProgram). length port.words) set.ports

abbrev pub all_capacities : ProgramSet → ℕ
all_capacities set = sum_by (λ (port : PortProgram). port.capacity) set.ports

-- no lawful list of steps from the start is longer: for each tile and each switch the limit, and for each
-- word and each place of a sink one
unfoldable pub most_steps : ProgramSet → ℕ
most_steps set = 2 * tile_count set.topo * set.limit + all_words set + all_capacities set
