-- What a picture says of processors in words: their names, their marks, how far they are, whom they wait for.
use Rattle.std.specs.Prelude.{ℕ, ◌+◌, ◌==◌, Bool, false, Option, Some, None, List, [], ◌++◌, codes, decimal, drop, take, length, if◌then◌else◌}
use Rattle.std.specs.List.{position}
use Rattle.raw_grid.specs.Topology.{Topology}
use Rattle.raw_model.specs.Program.{ProgramSet, TileProgram}
use Rattle.raw_model.specs.Local.{Local, Tile, Switch}
use Rattle.raw_model.specs.Start.{MachineState}
use Rattle.raw_model.specs.Waits.{other_end}
use Rattle.raw_model.specs.StateTexts.{mark_of}
use Rattle.raw_names.specs.Names.{processor_name}

-- processor p waits on wire v for the processor at its other end
unfoldable pub wait_text : Topology → ℕ → ℕ → List ℕ
wait_text topo p v = processor_name topo p ++ codes " waits on wire " ++ decimal v ++ codes " for " ++ processor_name topo (other_end topo p v)

-- a text up to its first blank, and what stands behind that
abbrev pub up_to : List ℕ → Option ℕ → List ℕ
up_to text None = text
up_to text (Some i) = take i text

abbrev pub behind : List ℕ → Option ℕ → List ℕ
behind text None = []
behind text (Some i) = drop (i + 1) text

abbrev pub is_blank : ℕ → Bool
is_blank byte = byte == 32

unfoldable pub first_word : List ℕ → List ℕ
first_word text = up_to text (position is_blank text)

unfoldable pub after_first_word : List ℕ → List ℕ
after_first_word text = behind text (position is_blank text)

-- the mark that is shown of a tile or a switch: that of the report, but for an empty program, which is halted at once
abbrev pub shown_mark : ProgramSet → MachineState → ℕ → Bool → List ℕ
shown_mark set s p empty = if empty then codes "empty program" else mark_of set s p

-- whether the program of a tile is empty, and that of the switch beside it
abbrev pub no_code : Option TileProgram → Bool
no_code None = false
no_code (Some tile) = length tile.code == 0

abbrev pub no_switch_code : Option TileProgram → Bool
no_switch_code None = false
no_switch_code (Some tile) = length tile.switch == 0

abbrev pub pc_of : Local → ℕ
pc_of (Tile l) = l.pc
pc_of (Switch l) = l.pc
pc_of _ = 0

abbrev pub pc_at : Option Local → ℕ
pc_at None = 0
pc_at (Some l) = pc_of l
