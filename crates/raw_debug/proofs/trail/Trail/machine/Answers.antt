use Rattle.std.proofs.Common.{◌≡◌, subst}
use Rattle.raw_debug.specs.Walking.{Instant, state_after}
use Rattle.raw_debug.proofs.Walks.{state_is}
use Rattle.raw_debug.proofs.trail.Trail.machine.Goals as goal

pub returns-clause-state : goal.returns-clause-state
returns-clause-state c =
    let walk = c.self.inside.walk in
    let way = c.self.invariant.under_way in
    subst (λ (i : Instant). walk.machine.state ≡ state_after i.set i.moment) c.self.view_is (state_is walk c.set-set.ensures.valid way.0 way.1)
