use Rattle.raw_depth.proofs.Deeper.{start_same, runs_deeper, no_fewer}
use Rattle.raw_depth.proofs.laws.law_deeper.Goals as goal

pub returns-clause-start : goal.returns-clause-start
returns-clause-start c = start_same

pub returns-clause-runs : goal.returns-clause-runs
returns-clause-runs c = runs_deeper

pub returns-clause-no_fewer : goal.returns-clause-no_fewer
returns-clause-no_fewer c = no_fewer
