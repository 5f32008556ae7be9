use Rattle.std.proofs.Common.{None, ap, sym, ◌∙◌, arith}
use Rattle.std.specs.Prelude.{slice_index_or}
use Rattle.std.specs.List.{list_any}
use Rattle.std.specs.Option.{option_to_list}
use Rattle.raw_network.specs.Waits.{lacks_values}
use Rattle.raw_serial.proofs.Finding.{pass, here, none}
use Rattle.raw_serial.proofs.needs.first_empty.Goals as goal

pub returns-then-lacks_values : goal.returns-then-lacks_values
returns-then-lacks_values c =
    c.wire_at-input.ensures
    ∙ sym (here (lacks_values c.args.takes.now c.args.wires.now) (λ end. slice_index_or c.args.inputs.now end None) c.loop-end.end c.loop-end-test.true
    (ap (λ o. list_any (lacks_values c.args.takes.now c.args.wires.now) (option_to_list o)) (sym c.wire_at-input.ensures) ∙ sym c.lacks_values.ensures ∙ c.if-lacks_values.true))
    ∙ c.loop-end.invariant

pub loop-end-preserved : goal.loop-end-preserved
loop-end-preserved c =
    sym (pass (lacks_values c.args.takes.now c.args.wires.now) (λ end. slice_index_or c.args.inputs.now end None) c.loop-end.end c.loop-end-test.true
    (ap (λ o. list_any (lacks_values c.args.takes.now c.args.wires.now) (option_to_list o)) (sym c.wire_at-input.ensures) ∙ sym c.lacks_values.ensures ∙ c.if-lacks_values.false))
    ∙ c.loop-end.invariant

pub returns : goal.returns
returns c = sym (none (lacks_values c.args.takes.now c.args.wires.now) (λ end. slice_index_or c.args.inputs.now end None) c.loop-end.end (omega arith)) ∙ c.loop-end.invariant
