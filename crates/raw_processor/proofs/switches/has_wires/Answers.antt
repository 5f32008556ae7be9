use Rattle.std.proofs.Common.{◌∙◌}
use Rattle.raw_grid.specs.Wires.{input_wire, output_wire}
use Rattle.raw_processor.proofs.SwitchValues.{wires_alike, second_is, first_is}
use Rattle.raw_processor.proofs.switches.has_wires.Goals as goal

pub returns-then-all_have_wires : goal.returns-then-all_have_wires
returns-then-all_have_wires c = λ topo p are.
    second_is _ _ c.all_have_wires.result c.all_have_wires-then-all_have_wires.result c.if-all_have_wires.true
    (c.all_have_wires.ensures
    ∙ wires_alike c.inputs.result c.args.ends.now.inputs (input_wire topo p) _ are.inputs c.inputs.ensures.listed)
    (c.all_have_wires-then-all_have_wires.ensures
    ∙ wires_alike c.outputs.result c.args.ends.now.outputs (output_wire topo p) _ are.outputs c.outputs.ensures.listed)

pub returns-else-all_have_wires : goal.returns-else-all_have_wires
returns-else-all_have_wires c = λ topo p are.
    first_is _ _ c.all_have_wires.result c.if-all_have_wires.false
    (c.all_have_wires.ensures
    ∙ wires_alike c.inputs.result c.args.ends.now.inputs (input_wire topo p) _ are.inputs c.inputs.ensures.listed)
