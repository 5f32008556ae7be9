-- The programs of all tiles and switches as one list of parts, in the order in which one serial run takes them.
use Rattle.std.specs.Prelude.{◌≡◌, ℕ, ◌==◌, Option, option_map, List, [], ◌∷◌, ◌++◌, map, if◌then◌else◌}
use Rattle.std.specs.List.{flat_map, range_with_len}
use Rattle.std.specs.Option.{option_to_list}
use Rattle.raw_tile_isa.specs.Instruction.{Instruction}
use Rattle.raw_tile_isa.specs.Made as tile
use Rattle.raw_switch_isa.specs.Instruction.{SwitchInstruction}
use Rattle.raw_switch_isa.specs.Made as switch
use Rattle.raw_model.specs.Program.{TileProgram}

-- an instruction that is given to a tile, or to the switch beside a tile
pub data Part : Type 0 where
  ToTile : ℕ → Instruction → Part
  ToSwitch : ℕ → SwitchInstruction → Part

-- what a part gives to a tile, and to a tile's switch
abbrev pub for_tile : ℕ → Part → List Instruction
for_tile tile (ToTile t ins) = if t == tile then ins ∷ [] else []
for_tile tile (ToSwitch t ins) = []

abbrev pub for_switch : ℕ → Part → List SwitchInstruction
for_switch tile (ToTile t ins) = []
for_switch tile (ToSwitch t ins) = if t == tile then ins ∷ [] else []

-- the instructions that parts give to a tile, in order
abbrev pub tile_part : ℕ → List Part → List Instruction
tile_part tile parts = flat_map (for_tile tile) parts

-- those that they give to its switch
abbrev pub switch_part : ℕ → List Part → List SwitchInstruction
switch_part tile parts = flat_map (for_switch tile) parts

-- a block of instructions for a tile
abbrev pub to_tile : ℕ → List Instruction → List Part
to_tile t code = map (ToTile t) code

-- for each of the first n tiles, in order, the instruction for its switch, where there is one
abbrev pub to_switches : ℕ → (ℕ → Option SwitchInstruction) → List Part
to_switches n given = flat_map (λ tile. option_to_list (option_map (ToSwitch tile) (given tile))) (range_with_len 0 n)

-- what a tile is given by parts
abbrev pub program_of : List Part → ℕ → TileProgram
program_of parts t = record { code = tile_part t parts; switch = switch_part t parts; cells = []; misses = [] }

-- what each of n tiles is given by them
abbrev pub programs_of : ℕ → List Part → List TileProgram
programs_of n parts = map (program_of parts) (range_with_len 0 n)

-- the programs of n tiles have been given these parts more
abbrev pub Gives : ℕ → List Part → List TileProgram → List TileProgram → Type 0
Gives n chunk old new = (parts : List Part) → old ≡ programs_of n parts → new ≡ programs_of n (parts ++ chunk)

-- what a tile is given by all parts of a script: 'halt' stands behind them, at the tile and at its switch
abbrev pub script_program : List Part → ℕ → TileProgram
script_program parts t = record {
  code = tile_part t parts ++ tile.halt ∷ [];
  switch = switch_part t parts ++ switch.halt ∷ [];
  cells = [];
  misses = [];
}

-- what each of n tiles is given by a script
abbrev pub script_programs : ℕ → List Part → List TileProgram
script_programs n parts = map (script_program parts) (range_with_len 0 n)

-- 'halt' for each of the first n tiles and for its switch
abbrev pub halts_to : ℕ → List Part
halts_to n = flat_map (λ t. ToTile t tile.halt ∷ ToSwitch t switch.halt ∷ []) (range_with_len 0 n)
