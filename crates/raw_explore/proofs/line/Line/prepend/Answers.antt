use Rattle.std.proofs.Common.{arith}
use Rattle.raw_explore.proofs.line.Line.prepend.Goals as goal

pub invariant_of-self : goal.invariant_of-self
invariant_of-self c = (
  omega (arith, c.write_text-self-inside.ensures.start, c.self.invariant.0),
  omega (arith, c.write_text-self-inside.auto.bytes, c.self.invariant.1),
)
