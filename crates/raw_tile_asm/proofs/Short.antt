-- The listing of a program is short.
use Rattle.std.proofs.Common.{ℕ, ◌+◌, ◌*◌, ◌≤◌, List, [], ◌∷◌, ◌++◌, length, arith, length-append}
use Rattle.std.specs.List.{AllByRecursion}
use Rattle.raw_text.specs.Lines.{written_lines}
use Rattle.raw_tile_isa.specs.declared.limits.TheConstants.{MAX_TILE_CODE}
use Rattle.raw_tile_isa.specs.Instruction.{Instruction, IsTileIns}
use Rattle.raw_tile_asm.specs.Listing.{line_text, listed_lines, listing}
use Rattle.raw_tile_asm.proofs.Limits.{limits}
use Rattle.raw_tile_asm.proofs.OneLine.{line_short}

lines_short : (place : ℕ) (program : List Instruction) → place + length program ≤ MAX_TILE_CODE → AllByRecursion IsTileIns program → length (written_lines (listed_lines place program)) ≤ 88 * length program
unfolding written_lines
lines_short place [] near all = omega arith
lines_short place (i ∷ more) near all =
    let line = line_text i place in
    let rest = written_lines (listed_lines (place + 1) more) in
    omega (arith, line_short i place (limits i all.0) (omega arith), length-append (line ++ 10 ∷ []) rest, length-append line (10 ∷ []), lines_short (place + 1) more (omega arith) all.1)

pub listing_short : (program : List Instruction) → length program ≤ MAX_TILE_CODE → AllByRecursion IsTileIns program → length (listing program) ≤ 88 * length program
unfolding listing
listing_short program few all = lines_short 0 program (omega arith) all
