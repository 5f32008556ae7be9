use Rattle.raw_debug.specs.Walking.{AreOn}
use Rattle.raw_debug.proofs.trail.open_copies.Given as goal

abbrev pub invariant-loop-copy : goal.invariant-loop-copy
invariant-loop-copy l = AreOn l.set l.walks.items
