use Rattle.std.proofs.Common.{ℕ, List, ◌+◌, ◌++◌, sym, ap, ◌∙◌, arith, append_assoc, append-nil}
use Rattle.std.proofs.lemmas.Result.{on_ok_weaker}
use Rattle.raw_asm.specs.Tokens.{section_lines}
use Rattle.raw_lines.specs.Lines.{told}
use Rattle.raw_lines.specs.Reading.{labels_between}
use Rattle.raw_lines.proofs.Labels.{none_told, one_told, two_told}
use Rattle.raw_lines.proofs.lines.push_line.Goals as goal

pub returns-then-size-eq0 : goal.returns-then-size-eq0
returns-then-size-eq0 c = λ kind place size stand.
    let lines = section_lines c.args.section.now in
    let old = c.args.bytes.now.items in
    sym (ap (λ t. old ++ t) (none_told kind lines c.args.name.now c.args.section.now.from c.args.line (omega (arith, size, c.if-size-eq0.true))) ∙ append-nil old)

pub returns-then-size-eq1 : goal.returns-then-size-eq1
returns-then-size-eq1 c = λ kind place size stand.
    let lines = section_lines c.args.section.now in
    let name = c.args.name.now in
    let from = c.args.section.now.from in
    let k = c.args.line in
    let old = c.args.bytes.now.items in
    c.in_ok-push_instruction.ensures ∙ ap (λ i. old ++ told name from k i (labels_between lines c.args.since (k + 1))) place
    ∙ ap (λ t. old ++ t) (one_told kind lines name from c.args.since k c.requires.line stand (omega (arith, size, c.if-size-eq1.true)))

pub returns : goal.returns
returns c = λ kind place size stand.
    on_ok_weaker c.push_instruction-2.result
    (λ d.
    let lines = section_lines c.args.section.now in
    let name = c.args.name.now in
    let from = c.args.section.now.from in
    let k = c.args.line in
    let old = c.args.bytes.now.items in
    let one : ℕ → List ℕ = λ i. told name from k i (labels_between lines c.args.since (k + 1)) in
    let two : ℕ → List ℕ = λ i. told name from k (i + 1) (labels_between lines (k + 1) (k + 1)) in
    d ∙ ap (λ t. t ++ two c.args.place) c.in_ok-push_instruction.ensures ∙ append_assoc old (one c.args.place) (two c.args.place)
    ∙ ap (λ i. old ++ (one i ++ two i)) place
    ∙ ap (λ t. old ++ t) (two_told kind lines name from c.args.since k c.requires.line stand (omega (arith, size, c.if-size-eq0.false, c.if-size-eq1.false, c.requires.few))))
    c.push_instruction-2.ensures
