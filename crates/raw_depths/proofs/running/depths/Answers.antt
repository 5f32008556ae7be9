use Rattle.std.proofs.Common.{subst}
use Rattle.raw_model.specs.Program.{IsSet}
use Rattle.raw_depths.proofs.Fastest.{its_cycles}
use Rattle.raw_depths.proofs.running.depths.Goals as goal

pub returns-clause-cycles : goal.returns-clause-cycles
returns-clause-cycles c =
    its_cycles c.args.set.now (subst IsSet c.set.view_is c.set.invariant) c.law_count.ensures.has c.law_depths.ensures.no_longer
