use Rattle.std.proofs.Common.{◌≡◌, [], length, refl, sym, ap, subst, ◌∙◌, arith}
use Rattle.raw_asm.specs.Tokens.{section_lines}
use Rattle.raw_set_text.specs.Entry.Entry.{Grid}
use Rattle.raw_set_text.specs.Forms.{line_entry}
use Rattle.raw_set_text.specs.Faults.{line_fault}
use Rattle.raw_set_text.specs.Answers.{Names}
use Rattle.raw_set_text.specs.Reading.{IsRead}
use Rattle.raw_set_text.proofs.Reading.Steps.{entry_next}
use Rattle.raw_set_text.proofs.Reading.Lines.{nothing_read, blanks_to, few_lines, cause_outside}
use Rattle.raw_set_text.proofs.reader.read_first.Goals as goal

pub returns-then-place-len-clause-cause : goal.returns-then-place-len-clause-cause
returns-then-place-len-clause-cause c =
    let lines = section_lines c.args.lines.now in
    let place = c.next_line-place.result in
    let r = blanks_to lines 0 place [] (nothing_read lines) c.next_line-place.ensures.low c.next_line-place.ensures.high c.next_line-place.ensures.blank in
    let same : place ≡ length lines = omega arith in
    rw c.missing.ensures (few_lines lines [] (subst (λ n. IsRead lines n []) same r) (omega arith))

pub returns-in-Ok-clause-read : goal.returns-in-Ok-clause-read
returns-in-Ok-clause-read c =
    let lines = section_lines c.args.lines.now in
    let place = c.next_line-place.result in
    let ports = c.in-Ok.ports in
    let r = blanks_to lines 0 place [] (nothing_read lines) c.next_line-place.ensures.low c.next_line-place.ensures.high c.next_line-place.ensures.blank in
    entry_next lines place [] (Grid ports.topo.cols ports.topo.rows) r (omega arith) (ap line_entry (sym c.line.ensures) ∙ c.in-Ok.ensures.entry) refl
    (ap (line_fault []) (sym c.line.ensures) ∙ c.in-Ok.ensures.fault)

pub returns-in-Err-clause-cause : goal.returns-in-Err-clause-cause
returns-in-Err-clause-cause c =
    let lines = section_lines c.args.lines.now in
    let place = c.next_line-place.result in
    let r = blanks_to lines 0 place [] (nothing_read lines) c.next_line-place.ensures.low c.next_line-place.ensures.high c.next_line-place.ensures.blank in
    rw c.located.ensures (cause_outside lines place [] c.in-Err.refusal r (omega arith)
    (subst (λ line. Names c.in-Err.refusal (line_fault [] line)) c.line.ensures c.in-Err.ensures.fault))
