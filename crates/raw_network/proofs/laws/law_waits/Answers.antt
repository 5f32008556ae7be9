use Rattle.raw_network.proofs.Waits.{law_none_where_enabled, law_unmet}
use Rattle.raw_network.proofs.laws.law_waits.Goals as goal

pub returns-clause-none_where_enabled : goal.returns-clause-none_where_enabled
returns-clause-none_where_enabled L c = λ net inputs outputs covered. law_none_where_enabled net inputs outputs covered

pub returns-clause-unmet : goal.returns-clause-unmet
returns-clause-unmet L c = λ net inputs outputs. law_unmet net inputs outputs
