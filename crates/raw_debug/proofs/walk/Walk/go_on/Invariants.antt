use Rattle.std.proofs.Common.{◌≡◌, ◌-◌}
use Rattle.raw_debug.specs.Walking.{IsUnderWay}
use Rattle.raw_debug.proofs.walk.Walk.go_on.Given as goal

abbrev pub invariant-steps : goal.invariant-steps
invariant-steps l = record {
  same : l.self.machine.set ≡ l.fn.self.machine.set;
  under_way : IsUnderWay l.self;
}

abbrev pub decreases-steps : goal.decreases-steps
decreases-steps l = l.moment - l.self.moment
