use Rattle.std.proofs.Common.{◌≡◌, ◌≤◌}
use Rattle.raw_debug.specs.Stops.{last_up_to}
use Rattle.raw_debug.proofs.trail.Trail.latest.Given as goal

abbrev pub invariant-copies : goal.invariant-copies
invariant-copies l =
    let set = l.fn.self.set in
    record {
      same : l.self.set ≡ set;
      before : l.high ≤ l.fn.self.moment;
      latest : last_up_to set l.fn.self.moment l.proc.0 l.aim ≡ last_up_to set l.high l.proc.0 l.aim;
    }

abbrev pub decreases-copies : goal.decreases-copies
decreases-copies l = l.left
