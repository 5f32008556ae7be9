use Rattle.std.proofs.Common.{◌∙◌}
use Rattle.raw_live.proofs.AtRest.{settled_rest, settled_led}
use Rattle.raw_live.proofs.engine.settle.Goals as goal

pub returns-clause-rest : goal.returns-clause-rest
returns-clause-rest g c =
    settled_rest _ c.run_to_rest-machine.result c.into_parts.result (c.run_to_rest-machine.ensures.set ∙ c.from_parts-machine.ensures.set) c.into_parts.ensures.made c.run_to_rest-machine.ensures.quiet c.into_parts.ensures.whole

pub returns-clause-led : goal.returns-clause-led
returns-clause-led g c =
    settled_led c.args.engine.now.set c.from_parts-machine.result c.run_to_rest-machine.result c.args.engine.now.parts c.replace-parts.result c.into_parts.result c.replace-parts.ensures.value c.from_parts-machine.ensures.set
    c.from_parts-machine.ensures.made c.into_parts.ensures.made c.run_to_rest-machine.ensures.led
