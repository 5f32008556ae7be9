use Rattle.std.proofs.Common.{◌≡◌, sym, ap, ◌∙◌}
use Rattle.raw_switch_isa.specs.Code.{code_of}
use Rattle.raw_switch_isa.proofs.Words.{op_shown}
use Rattle.raw_switch_isa.proofs.code.decode.Goals as goal

pub returns-in_err-op-clause-only : goal.returns-in_err-op-clause-only
returns-in_err-op-clause-only c = λ i code. let op = c.with_number.ensures ∙ op_shown i c.args.word code in cc c.in_err-op.was

pub returns-in_err-ins-clause-only : goal.returns-in_err-ins-clause-only
returns-in_err-ins-clause-only c = λ i code.
    let op = c.with_number.ensures ∙ op_shown i c.args.word code in
    let same : i.op ≡ c.in_ok-op.op = cc c.in_ok-op.was in
    cc (c.fields_of.ensures i code same, c.in_err-ins.was)

pub returns-then-encode-word-clause-only : goal.returns-then-encode-word-clause-only
returns-then-encode-word-clause-only c = λ i code.
    let op = c.with_number.ensures ∙ op_shown i c.args.word code in
    let same : i.op ≡ c.in_ok-op.op = cc c.in_ok-op.was in
    cc (c.fields_of.ensures i code same, c.in_ok-ins.was)

pub returns-else-encode-word-clause-only : goal.returns-else-encode-word-clause-only
returns-else-encode-word-clause-only c = λ i code.
    let op = c.with_number.ensures ∙ op_shown i c.args.word code in
    let same : i.op ≡ c.in_ok-op.op = cc c.in_ok-op.was in
    let ins : c.in_ok-ins.ins ≡ i = cc (c.fields_of.ensures i code same, c.in_ok-ins.was) in
    absurd (c.if-encode-word.false (sym c.encode.ensures.code ∙ ap code_of ins ∙ code.code))
