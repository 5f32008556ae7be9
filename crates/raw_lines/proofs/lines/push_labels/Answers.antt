use Rattle.std.proofs.Common.{◌≡◌, ◌+◌, ◌-◌, ◌++◌, ap, subst, ◌∙◌, arith}
use Rattle.raw_asm.specs.Tokens.{section_lines}
use Rattle.raw_lines.specs.Places.{label_in}
use Rattle.raw_lines.specs.Lines.{label_text}
use Rattle.raw_lines.specs.Reading.{label_text_at, labels_between}
use Rattle.raw_lines.proofs.Ranges.{one_more, none_yet}
use Rattle.raw_lines.proofs.lines.push_labels.Goals as goal

pub loop-line-init : goal.loop-line-init
loop-line-init c = none_yet (label_text_at (section_lines c.args.section.now)) c.args.from _ c.args.bytes.now.items (omega arith)

pub loop-line-preserved : goal.loop-line-preserved
loop-line-preserved c =
    let k = c.loop-line.line in
    let from = c.args.from in
    one_more (label_text_at (section_lines c.args.section.now)) from (k - from) (k + 1 - from) k _ _ _ (omega arith) (omega arith) c.loop-line.invariant
    (c.in_ok-push_label.ensures ∙ ap (λ t. c.loop-line.bytes.items ++ label_text (label_in t)) c.line.ensures)

pub returns : goal.returns
returns c =
    let all : c.loop-line.line ≡ c.args.to = omega arith in
    subst (λ k. c.loop-line.bytes.items ≡ c.args.bytes.now.items ++ labels_between (section_lines c.args.section.now) c.args.from k) all c.loop-line.invariant
