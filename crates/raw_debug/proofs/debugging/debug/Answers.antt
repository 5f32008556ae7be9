use Rattle.std.proofs.Common.{◌-◌, arith}
use Rattle.raw_debug.proofs.debugging.debug.Goals as goal

pub returns-in-Some-clause-cause : goal.returns-in-Some-clause-cause
returns-in-Some-clause-cause g c = (c.in-Some.line - c.args.from, c.in-Some.ensures.2, omega (arith, c.in-Some.ensures.0))
