use Rattle.raw_fabric_step.proofs.SwitchEnds.{switch_asked}
use Rattle.raw_fabric_step.proofs.switches.switch_asks.Goals as goal

pub returns : goal.returns
returns c set p l needs_are gives_are =
    switch_asked c.args.step.now set p l c.inputs.result c.outputs.result c.inputs.ensures c.outputs.ensures needs_are gives_are
