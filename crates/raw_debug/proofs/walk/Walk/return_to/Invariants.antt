use Rattle.std.proofs.Common.{◌≡◌, ◌-◌, ◌≤◌}
use Rattle.raw_debug.specs.Walking.{IsUnderWay}
use Rattle.raw_debug.proofs.walk.Walk.return_to.Given as goal

abbrev pub invariant-steps : goal.invariant-steps
invariant-steps l = record {
  same : l.self.machine.set ≡ l.fn.self.machine.set;
  under_way : IsUnderWay l.self;
  upto : l.self.moment ≤ l.moment;
}

abbrev pub decreases-steps : goal.decreases-steps
decreases-steps l = l.moment - l.self.moment
