-- What stands in the local state of a processor of any kind.
use Rattle.std.specs.Prelude.{ℕ, Option, Some, None, List, []}
use Rattle.std.specs.List.{flat_map}
use Rattle.raw_model.specs.Local.{Local, Tile, Sink, steps_of}
use Rattle.raw_model.specs.Start.{MachineState}

-- its memory; only a tile has one
abbrev pub memory_of : Option Local → List ℕ
memory_of (Some (Tile l)) = l.memory
memory_of _ = []

-- how many steps it has taken: instructions executed, or words sent or got
abbrev pub count_in : Option Local → ℕ
count_in None = 0
count_in (Some l) = steps_of l

-- the words that it has taken out of the grid; only a sink has some
abbrev pub got_of : Option Local → List ℕ
got_of (Some (Sink l)) = l.got
got_of _ = []

abbrev pub got_by : Local → List ℕ
got_by (Sink l) = l.got
got_by _ = []

-- those that all sinks have taken out
abbrev pub received : MachineState → List ℕ
received s = flat_map got_by s.locals
