-- The values that a firing is given, and what it answers.
use Rattle.std.specs.Prelude.{◌≡◌, ◌<◌, Bool, false, ◌&&◌, Option, Some, None, ℕ, List, ◌++◌, is_some}
use Rattle.std.specs.Option.{option_to_list}
use Rattle.raw_tile_isa.specs.Instruction.{Instruction, is_network, uses, is_rs, reads_rt}
use Rattle.raw_model.specs.declared.limits.TheConstants.{MAX_STEPS}
use Rattle.raw_model.specs.declared.marks.Mark.TheVariants.{Going}
use Rattle.raw_model.specs.Local.{TileLocal}
use Rattle.raw_model.specs.TileTable.{TileEffect}
use Rattle.raw_tile.specs.declared.fire.TileGiven.{TileGiven}
use Rattle.raw_tile.specs.declared.fire.TileOut.{TileOut}

-- the values that are given, that for rs before that for rt
abbrev pub values_of : TileGiven → List ℕ
values_of given = option_to_list given.a ++ option_to_list given.b

-- an instruction reads a network at rs
abbrev pub takes_first : Option Instruction → Bool
takes_first None = false
takes_first (Some ins) = uses is_rs ins.op && is_network ins.rs

-- an instruction reads a network at rt
abbrev pub takes_second : Option Instruction → Bool
takes_second None = false
takes_second (Some ins) = reads_rt ins.op && is_network ins.rt

-- a value is given exactly for each position at which the instruction reads a network
pub record IsGivenFor (ins : Option Instruction) (given : TileGiven) : Type 0 where
  pub first : is_some given.a ≡ takes_first ins
  pub second : is_some given.b ≡ takes_second ins

-- a tile that has not ended and may take one more step
pub record MayStep (tile : TileLocal) : Type 0 where
  pub going : tile.mark ≡ Going
  pub count : tile.count < MAX_STEPS

-- what a firing answers of its effect
abbrev pub out_of : TileEffect → TileOut
out_of effect = record { sent1 = effect.sent1; sent2 = effect.sent2; touched = effect.touched }
