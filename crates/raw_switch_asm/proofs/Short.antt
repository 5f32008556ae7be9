-- The listing of a program is short.
use Rattle.std.proofs.Common.{suc, ◌*◌, ◌≤◌, List, [], ◌∷◌, ◌++◌, length, map, All, arith, length-append}
use Rattle.raw_text.specs.Lines.{written_lines}
use Rattle.raw_switch_isa.specs.Instruction.{SwitchInstruction, IsSwitchIns}
use Rattle.raw_switch_asm.specs.Listing.{line_text, listing}
use Rattle.raw_switch_asm.proofs.TextLaws.{TextLaws}
use Rattle.raw_switch_asm.proofs.CutLine.{line_short}
use Rattle.raw_switch_asm.proofs.StatementBack.{small_fields}

pub listing_short : TextLaws → (program : List SwitchInstruction) → All IsSwitchIns program → length (listing program) ≤ 112 * length program
unfolding listing written_lines
listing_short l [] all = omega arith
listing_short l (ins ∷ program) all =
    let line = line_text ins in
    let rest = written_lines (map line_text program) in
    omega (
      arith,
      line_short l ins (small_fields ins (all 0 ins (omega arith))),
      length-append (line ++ 10 ∷ []) rest,
      length-append line (10 ∷ []),
      listing_short l program (λ k d lt. all (suc k) d (omega arith)),
    )
