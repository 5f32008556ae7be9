-- A listing is read back as its program.
use Rattle.std.specs.Prelude.{◌≡◌, ◌≤◌, List, length, map, None}
use Rattle.std.specs.List.{AllByRecursion}
use Rattle.raw_text.specs.Lines.{lines_of, tokens_of, first_fault}
use Rattle.raw_asm.specs.Section.{IsMeaning}
use Rattle.raw_tile_isa.specs.declared.limits.TheConstants.{MAX_TILE_CODE}
use Rattle.raw_tile_isa.specs.Instruction.{Instruction, IsTileIns}
use Rattle.raw_tile_asm.specs.Language.{tile_language}
use Rattle.raw_tile_asm.specs.Listing.{listing}

-- the listing of a program is read as lines without a fault, and these mean the program
pub record IsReadBack (program : List Instruction) : Type 0 where
  pub faultless : first_fault 1 (lines_of (listing program)) ≡ None
  pub meaning : IsMeaning tile_language (map tokens_of (lines_of (listing program))) program

-- the listing of each program within its limit is read back
abbrev pub EachIsReadBack : Type 0
EachIsReadBack = (program : List Instruction) → length program ≤ MAX_TILE_CODE → AllByRecursion IsTileIns program → IsReadBack program
