use Rattle.std.proofs.Common.{◌≡◌}
use Rattle.raw_debug.proofs.trail.Trail.go_to_rest.Given as goal

abbrev pub invariant-loop-part : goal.invariant-loop-part
invariant-loop-part l = l.self.set ≡ l.fn.self.set
