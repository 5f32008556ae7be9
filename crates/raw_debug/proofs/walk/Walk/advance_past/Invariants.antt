use Rattle.std.proofs.Common.{◌-◌}
use Rattle.raw_debug.specs.Walking.{HasGoneOn}
use Rattle.raw_debug.specs.Stops.{GoesPast}
use Rattle.raw_debug.proofs.walk.Walk.advance_past.Given as goal

abbrev pub invariant-steps : goal.invariant-steps
invariant-steps l = record {
  gone : HasGoneOn l.fn.self l.self l.moment;
  past : GoesPast l.fn.self l.self l.stepped.0 l.proc.0 l.aim;
}

abbrev pub decreases-steps : goal.decreases-steps
decreases-steps l = l.moment - l.self.moment
