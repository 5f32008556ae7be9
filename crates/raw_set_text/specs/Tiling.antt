-- What the functions on one tile's parts do.
use Rattle.std.specs.Prelude.{◌≡◌, ℕ, List, [], ◌++◌, Option, Some, None, slice_get, unwrap_or}
use Rattle.std.specs.Option.{option_map, option_or}
use Rattle.raw_tile_isa.specs.Instruction.{Instruction}
use Rattle.raw_switch_isa.specs.Instruction.{SwitchInstruction}
use Rattle.raw_model.specs.Program.{TileProgram}
use Rattle.raw_set_text.specs.declared.tile_parts.TileParts.{TileParts}
use Rattle.raw_set_text.specs.declared.tiles.Tiles.{Tiles}
use Rattle.raw_set_text.specs.Memory.{word_of, cells_within}

-- a tile that was given nothing
pub record IsBlank (parts : TileParts) : Type 0 where
  pub code : parts.code ≡ None
  pub switch : parts.switch ≡ None
  pub memory : (i : ℕ) → word_of parts.memory i ≡ None
  pub misses : parts.misses.items ≡ []

-- what a tile is given more: programs where it had none, words at places, and numbers of its miss stream
pub record Gains (old new : TileParts) (program : Option (List Instruction)) (routes : Option (List SwitchInstruction)) (word : ℕ → Option ℕ) (turns : List ℕ) : Type 0 where
  pub code : option_map (λ code. code.items) new.code ≡ option_or (option_map (λ code. code.items) old.code) program
  pub switch : option_map (λ code. code.items) new.switch ≡ option_or (option_map (λ code. code.items) old.switch) routes
  pub memory : (i : ℕ) → word_of new.memory i ≡ option_or (word_of old.memory i) (word i)
  pub misses : new.misses.items ≡ old.misses.items ++ turns

-- tile t has no program so far
abbrev pub HasNoCode : Tiles → ℕ → Type 0
HasNoCode tiles t = (parts : TileParts) → slice_get tiles.parts.items t ≡ Some parts → parts.code ≡ None

-- the switch of tile t has no program so far
abbrev pub HasNoSwitch : Tiles → ℕ → Type 0
HasNoSwitch tiles t = (parts : TileParts) → slice_get tiles.parts.items t ≡ Some parts → parts.switch ≡ None

-- the program of a tile as a whole
unfoldable pub program_of : ℕ → TileParts → TileProgram
program_of size parts = record {
  code = unwrap_or (option_map (λ code. code.items) parts.code) [];
  switch = unwrap_or (option_map (λ code. code.items) parts.switch) [];
  cells = cells_within size parts.memory;
  misses = parts.misses.items;
}
