use Rattle.std.proofs.Common.{◌-◌, ◌≤◌}
use Rattle.raw_debug.proofs.Seen.{Looks}
use Rattle.raw_debug.proofs.walk.Walk.latest_up_to.Given as goal

abbrev pub invariant-steps : goal.invariant-steps
invariant-steps l = record {
  look : Looks l.fn.self.machine.set l.fn.self.moment l.proc.0 l.aim l.self l.latest;
  upto : l.self.moment ≤ l.moment;
}

abbrev pub decreases-steps : goal.decreases-steps
decreases-steps l = l.moment - l.self.moment
