use Rattle.raw_cycle.proofs.Smallest.{least_law}
use Rattle.raw_cycle.proofs.laws.law_least.Goals as goal

pub returns : goal.returns
returns c = least_law
