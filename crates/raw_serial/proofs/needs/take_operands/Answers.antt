use Rattle.std.proofs.Common.{sym}
use Rattle.raw_processor.specs.Given.{taken_by, sent_by}
use Rattle.raw_serial.proofs.Stepping.{counts_taken, is_taken}
use Rattle.raw_serial.proofs.needs.take_operands.Goals as goal

pub take_pair-requires : goal.take_pair-requires
take_pair-requires c =
    let needs = c.requires.needs in
    counts_taken c.args.set.now needs.p needs.l c.args.wires.now c.args.ends.now (taken_by c.args.needs) (sent_by c.args.needs) needs.needs (sym (c.in_default.ensures needs.p needs.l needs.needs))

pub returns-clause-met : goal.returns-clause-met
returns-clause-met c = λ p l needs.
    is_taken c.args.set.now p l c.args.wires.now c.args.ends.now (taken_by c.args.needs) (sent_by c.args.needs) _ _ needs (sym (c.in_default.ensures p l needs))
    c.take_pair.ensures.values c.take_pair.ensures.rest
