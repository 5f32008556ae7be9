use Rattle.std.proofs.Common.{◌≡◌, [], ◌∷◌, length, refl, sym, ap, subst, ◌∙◌, arith}
use Rattle.raw_asm.specs.Tokens.{section_lines}
use Rattle.raw_set_text.specs.Entry.Entry.{Grid, Limit}
use Rattle.raw_set_text.specs.Forms.{line_entry}
use Rattle.raw_set_text.specs.Faults.{line_fault}
use Rattle.raw_set_text.specs.Answers.{Names}
use Rattle.raw_set_text.specs.Reading.{IsRead}
use Rattle.raw_set_text.proofs.Reading.Steps.{entry_next}
use Rattle.raw_set_text.proofs.Reading.Lines.{blanks_to, few_lines, cause_outside}
use Rattle.raw_set_text.proofs.reader.read_second.Goals as goal

pub returns-then-place-len-clause-cause : goal.returns-then-place-len-clause-cause
returns-then-place-len-clause-cause c =
    let lines = section_lines c.args.lines.now in
    let place = c.next_line-place.result in
    let grid = Grid c.requires.0 c.requires.1 ∷ [] in
    let r = blanks_to lines c.args.from place grid c.requires.2 c.next_line-place.ensures.low c.next_line-place.ensures.high c.next_line-place.ensures.blank in
    let same : place ≡ length lines = omega arith in
    rw c.missing.ensures (few_lines lines grid (subst (λ n. IsRead lines n grid) same r) (omega arith))

pub returns-in-Ok-clause-read : goal.returns-in-Ok-clause-read
returns-in-Ok-clause-read c columns rows before =
    let lines = section_lines c.args.lines.now in
    let place = c.next_line-place.result in
    let grid = Grid columns rows ∷ [] in
    let r = blanks_to lines c.args.from place grid before c.next_line-place.ensures.low c.next_line-place.ensures.high c.next_line-place.ensures.blank in
    entry_next lines place grid (Limit c.in-Ok.limit) r (omega arith) (ap line_entry (sym c.line.ensures) ∙ c.in-Ok.ensures.entry) refl
    (ap (line_fault grid) (sym c.line.ensures) ∙ c.in-Ok.ensures.fault columns rows)

pub returns-in-Err-clause-cause : goal.returns-in-Err-clause-cause
returns-in-Err-clause-cause c =
    let lines = section_lines c.args.lines.now in
    let place = c.next_line-place.result in
    let grid = Grid c.requires.0 c.requires.1 ∷ [] in
    let r = blanks_to lines c.args.from place grid c.requires.2 c.next_line-place.ensures.low c.next_line-place.ensures.high c.next_line-place.ensures.blank in
    rw c.located.ensures (cause_outside lines place grid c.in-Err.refusal r (omega arith)
    (subst (λ line. Names c.in-Err.refusal (line_fault grid line)) c.line.ensures (c.in-Err.ensures.fault c.requires.0 c.requires.1)))
