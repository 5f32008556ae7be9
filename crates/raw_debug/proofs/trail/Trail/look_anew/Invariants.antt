use Rattle.std.proofs.Common.{◌≡◌, ◌-◌, ◌≤◌}
use Rattle.raw_debug.specs.Stops.{last_up_to}
use Rattle.raw_debug.proofs.trail.Trail.look_anew.Given as goal

abbrev pub invariant-halves : goal.invariant-halves
invariant-halves l = record {
  same : l.self.set ≡ l.fn.self.set;
  upto : l.self.moment ≤ l.moment;
  latest : last_up_to l.fn.self.set l.self.moment l.proc.0 l.aim ≡ l.latest;
}

abbrev pub decreases-halves : goal.decreases-halves
decreases-halves l = l.moment - l.self.moment
