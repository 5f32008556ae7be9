use Rattle.raw_network.proofs.Weaving.{law_one_may_be_taken, law_first_may_be_taken, law_same_logs}
use Rattle.raw_network.proofs.laws.law_weaving.Goals as goal

pub returns-clause-taken : goal.returns-clause-taken
returns-clause-taken L c = λ net producer consumer wired. law_one_may_be_taken net producer consumer wired

pub returns-clause-goes_on : goal.returns-clause-goes_on
returns-clause-goes_on L c = λ net. law_first_may_be_taken net

pub returns-clause-same_end : goal.returns-clause-same_end
returns-clause-same_end L c = λ net producer consumer wired. law_same_logs net producer consumer wired
