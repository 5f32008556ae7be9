use Rattle.raw_depth.proofs.Never.{set_at}
use Rattle.raw_model.specs.contracts.program.Set.{the_view}
use Rattle.raw_depths.proofs.running.set_depth.Goals as goal

pub invariant_of-set : goal.invariant_of-set
invariant_of-set c = set_at (the_view c.set.inside) c.args.depth c.set.invariant c.requires.some c.requires.few
