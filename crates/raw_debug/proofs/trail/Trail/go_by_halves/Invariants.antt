use Rattle.std.proofs.Common.{◌≡◌}
use Rattle.raw_debug.proofs.trail.Trail.go_by_halves.Given as goal

abbrev pub invariant-halves : goal.invariant-halves
invariant-halves l = l.self.set ≡ l.fn.self.set

abbrev pub decreases-halves : goal.decreases-halves
decreases-halves l = l.left
