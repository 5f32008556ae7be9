use Rattle.std.proofs.Common.{ap, sym, ◌∙◌, arith}
use Rattle.raw_switch_isa.specs.Ends.{is_from_input, route_source, is_used_input, has_end}
use Rattle.raw_switch_isa.proofs.EndWords.{any_more, any_done, filter_same}
use Rattle.raw_switch_isa.proofs.ends.inputs.Goals as goal

pub loop-output-preserved : goal.loop-output-preserved
loop-output-preserved c = λ end.
    any_more (λ output. is_from_input end (route_source c.args.ins.now output)) c.loop-output.word c.input_end-word-in-loop-output.result end c.loop-output.output c.loop-output-test.true
    (c.input_end-word-in-loop-output.ensures end ∙ ap (is_from_input end) c.route_source.ensures.source)
    ∙ c.loop-output.invariant end

pub returns-clause-bits : goal.returns-clause-bits
returns-clause-bits c = λ end.
    sym (any_done (λ output. is_from_input end (route_source c.args.ins.now output)) c.loop-output.word end c.loop-output.output (omega arith)) ∙ c.loop-output.invariant end

pub returns-clause-listed : goal.returns-clause-listed
returns-clause-listed c = filter_same (has_end c.loop-output.word) (is_used_input c.args.ins.now) (returns-clause-bits c)
