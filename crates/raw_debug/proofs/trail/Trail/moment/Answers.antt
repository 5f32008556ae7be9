use Rattle.std.proofs.Common.{◌≤◌, length, subst}
use Rattle.raw_model.specs.Serial.{serial}
use Rattle.raw_debug.specs.Walking.{Instant}
use Rattle.raw_debug.proofs.Walks.{moment_within}
use Rattle.raw_debug.proofs.trail.Trail.moment.Goals as goal

pub returns-clause-within : goal.returns-clause-within
returns-clause-within c =
    let walk = c.self.inside.walk in
    let way = c.self.invariant.under_way in
    subst (λ (i : Instant). walk.moment ≤ length (serial i.set)) c.self.view_is (moment_within walk c.set-set.ensures.valid way.0 way.1)
