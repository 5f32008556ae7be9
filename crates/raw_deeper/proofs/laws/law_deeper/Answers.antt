use Rattle.raw_deeper.proofs.Same.{law_same, law_no_fewer}
use Rattle.raw_deeper.proofs.laws.law_deeper.Goals as goal

pub returns-clause-same : goal.returns-clause-same
returns-clause-same L c = λ net. law_same net

pub returns-clause-no_fewer : goal.returns-clause-no_fewer
returns-clause-no_fewer L c = λ net producer consumer wired. law_no_fewer net producer consumer wired
