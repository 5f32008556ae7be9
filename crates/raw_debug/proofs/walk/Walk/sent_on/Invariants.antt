use Rattle.std.proofs.Common.{◌≡◌, ◌-◌, ◌≤◌}
use Rattle.raw_debug.specs.Walking.{sent_by, IsUnderWay}
use Rattle.raw_debug.specs.Sending.{IsSent}
use Rattle.raw_debug.proofs.walk.Walk.sent_on.Given as goal

abbrev pub invariant-steps : goal.invariant-steps
invariant-steps l = record {
  same : l.self.machine.set ≡ l.fn.self.machine.set;
  under_way : IsUnderWay l.self;
  upto : l.self.moment ≤ l.moment;
  sent : IsSent l.sent (sent_by l.self.machine.set l.self.moment l.wire.0);
  few : l.sent.count ≤ l.self.moment;
}

abbrev pub decreases-steps : goal.decreases-steps
decreases-steps l = l.moment - l.self.moment
