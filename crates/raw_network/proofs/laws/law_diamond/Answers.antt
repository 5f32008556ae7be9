use Rattle.raw_network.proofs.Networks.{law_still_enabled, law_same_state, law_same_events}
use Rattle.raw_network.proofs.laws.law_diamond.Goals as goal

pub returns-clause-still_enabled : goal.returns-clause-still_enabled
returns-clause-still_enabled L c = λ net producer consumer wired. law_still_enabled net producer consumer wired

pub returns-clause-same_state : goal.returns-clause-same_state
returns-clause-same_state L c = λ net producer consumer wired. law_same_state net producer consumer wired

pub returns-clause-same_events : goal.returns-clause-same_events
returns-clause-same_events L c = λ net producer consumer wired. law_same_events net producer consumer wired
