use Rattle.std.proofs.Common.{ap, ◌∙◌}
use Rattle.std.specs.Prelude.{◌==◌}
use Rattle.std.proofs.lemmas.Nat.Bits.{bit_at-zero}
use Rattle.raw_switch.specs.Given.{takes_from}
use Rattle.raw_processor.specs.Given.{sends_to}
use Rattle.raw_processor.proofs.SwitchValues.{takes_named, sends_named}
use Rattle.raw_processor.proofs.switches.switch_needs.Goals as goal

pub returns-in-Some-clause-takes : goal.returns-in-Some-clause-takes
returns-in-Some-clause-takes c = λ topo p ends are.
    takes_named topo p ends _ c.inputs.result are (λ end. c.inputs.ensures end ∙ ap (λ next. takes_from next end) c.in-Some.ensures)

pub returns-in-Some-clause-sends : goal.returns-in-Some-clause-sends
returns-in-Some-clause-sends c = λ topo p ends are.
    sends_named topo p ends _ c.outputs.result are (λ end. c.outputs.ensures end ∙ ap (λ next. sends_to next end) c.in-Some.ensures)

pub returns-in-None-clause-takes : goal.returns-in-None-clause-takes
returns-in-None-clause-takes c = λ topo p ends are.
    takes_named topo p ends _ 0 are (λ end. ap (λ bit. bit == 1) (bit_at-zero end) ∙ ap (λ next. takes_from next end) c.in-None.ensures)

pub returns-in-None-clause-sends : goal.returns-in-None-clause-sends
returns-in-None-clause-sends c = λ topo p ends are.
    sends_named topo p ends _ 0 are (λ end. ap (λ bit. bit == 1) (bit_at-zero end) ∙ ap (λ next. sends_to next end) c.in-None.ensures)
