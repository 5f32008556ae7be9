use Rattle.raw_debug.proofs.Copying.{starts_with}
use Rattle.raw_debug.proofs.trail.Trail.open.Goals as goal

pub invariant_of-result : goal.invariant_of-result
invariant_of-result c =
    starts_with c.args.set.now c.in_ok-walk.walk c.open_copies-copies.result.items c.in_ok-walk.ensures c.open_copies-copies.ensures
