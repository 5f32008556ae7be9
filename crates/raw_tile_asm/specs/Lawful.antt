-- What the assembler can give.
use Rattle.std.specs.Prelude.{ℕ, ◌≤◌, List, length, All}
use Rattle.raw_tile_isa.specs.declared.limits.TheConstants.{MAX_TILE_CODE}
use Rattle.raw_tile_isa.specs.Instruction.{Instruction, IsTileIns}
use Rattle.raw_asm.specs.Section.{code_upto, AreFaultless}
use Rattle.raw_tile_asm.specs.Language.{tile_language}

-- each instruction keeps its row's rules, and there are at most 16,384 of them
pub record IsLawful (program : List Instruction) : Type 0 where
  pub each : All IsTileIns program
  pub few : length program ≤ MAX_TILE_CODE

-- so is what the first lines give, of any lines, where none of these has a fault
abbrev pub EachFrontIsLawful : Type 0
EachFrontIsLawful = (lines : List (List (List ℕ))) (n : ℕ) → AreFaultless tile_language lines n → IsLawful (code_upto tile_language lines n)
