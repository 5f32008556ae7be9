use Rattle.raw_network.proofs.Networks.{law_at_most_as_often, law_same_steps, law_prefix, law_same_rest, law_same_end, law_next_is_enabled, law_some_is_beyond}
use Rattle.raw_network.proofs.laws.law_same_rest.Goals as goal

pub returns-clause-at_most_as_often : goal.returns-clause-at_most_as_often
returns-clause-at_most_as_often L c = λ net producer consumer wired. law_at_most_as_often net producer consumer wired

pub returns-clause-same_steps : goal.returns-clause-same_steps
returns-clause-same_steps L c = λ net producer consumer wired. law_same_steps net producer consumer wired

pub returns-clause-prefix : goal.returns-clause-prefix
returns-clause-prefix L c = λ net producer consumer wired. law_prefix net producer consumer wired

pub returns-clause-same_rest : goal.returns-clause-same_rest
returns-clause-same_rest L c = λ net producer consumer wired. law_same_rest net producer consumer wired

pub returns-clause-same_end : goal.returns-clause-same_end
returns-clause-same_end L c = λ net producer consumer wired. law_same_end net producer consumer wired

pub returns-clause-next_is_enabled : goal.returns-clause-next_is_enabled
returns-clause-next_is_enabled L c = λ net producer consumer wired. law_next_is_enabled net producer consumer wired

pub returns-clause-some_is_beyond : goal.returns-clause-some_is_beyond
returns-clause-some_is_beyond L c = law_some_is_beyond
