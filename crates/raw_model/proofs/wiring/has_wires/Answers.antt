use Rattle.std.proofs.Common.{sym, ap, ◌∙◌}
use Rattle.std.specs.Prelude.{is_some}
use Rattle.std.specs.List.{list_all}
use Rattle.raw_switch_isa.specs.Ends.{has_end, inputs_of, outputs_of}
use Rattle.raw_grid.specs.Wires.{input_wire, output_wire}
use Rattle.raw_model.proofs.EndTests.{same_all, and_true, and_false}
use Rattle.raw_model.proofs.wiring.has_wires.Goals as goal

pub returns-then-are_within : goal.returns-then-are_within
returns-then-are_within c = λ topo p wired.
    let ins = c.args.ins.now in
    let inputs = c.are_within.ensures ∙ ap (list_all (has_end c.args.wired.inputs)) c.inputs.ensures.listed ∙ same_all (has_end c.args.wired.inputs) (λ end. is_some (input_wire topo p end)) (inputs_of ins) wired.inputs in
    let outputs = c.are_within-then-are_within.ensures ∙ ap (list_all (has_end c.args.wired.outputs)) c.outputs.ensures.listed ∙ same_all (has_end c.args.wired.outputs) (λ end. is_some (output_wire topo p end)) (outputs_of ins) wired.outputs in
    and_true _ _ _ (sym inputs ∙ c.if-are_within.true) outputs

pub returns-else-are_within : goal.returns-else-are_within
returns-else-are_within c = λ topo p wired.
    let ins = c.args.ins.now in
    let inputs = c.are_within.ensures ∙ ap (list_all (has_end c.args.wired.inputs)) c.inputs.ensures.listed ∙ same_all (has_end c.args.wired.inputs) (λ end. is_some (input_wire topo p end)) (inputs_of ins) wired.inputs in
    and_false _ _ _ (sym inputs ∙ c.if-are_within.false) c.if-are_within.false
