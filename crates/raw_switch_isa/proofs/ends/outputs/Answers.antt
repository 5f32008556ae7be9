use Rattle.std.proofs.Common.{length, ap, sym, ◌∙◌, arith}
use Rattle.raw_switch_isa.specs.Ends.{is_filled, has_end}
use Rattle.raw_switch_isa.proofs.EndWords.{filled_more, filled_done, filter_same}
use Rattle.raw_switch_isa.proofs.ends.outputs.Goals as goal

pub loop-output-preserved : goal.loop-output-preserved
loop-output-preserved c = λ end. filled_more (is_filled c.args.ins.now) c.loop-output.word c.output_end-word.result end c.loop-output.output (c.loop-output.invariant end) (c.output_end-word.ensures end)

pub returns-clause-bits : goal.returns-clause-bits
returns-clause-bits c = λ end. c.loop-output.invariant end ∙ filled_done c.args.ins.now end c.loop-output.output (ap (λ i. length i.routes) (sym c.ins.view_is) ∙ c.ins.invariant.ten) (omega arith)

pub returns-clause-listed : goal.returns-clause-listed
returns-clause-listed c = filter_same (has_end c.loop-output.word) (is_filled c.args.ins.now) (returns-clause-bits c)
