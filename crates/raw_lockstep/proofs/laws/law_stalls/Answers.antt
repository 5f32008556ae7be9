use Rattle.std.specs.Prelude.{IsTrue}
use Rattle.raw_lockstep.proofs.Stalling.{law_stays_wired, law_stays_bounded, law_may_turn, law_steps_of_turns, law_rests_too, law_cycle_fires, law_more_turns, law_none_steps_sooner, law_no_steps_sooner}
use Rattle.raw_lockstep.proofs.laws.law_stalls.Goals as goal

pub returns-clause-wired : goal.returns-clause-wired
returns-clause-wired L c = λ net cost. law_stays_wired net cost

pub returns-clause-bounded : goal.returns-clause-bounded
returns-clause-bounded L c = λ net cost fit left most. law_stays_bounded net cost (λ p l. IsTrue (fit p l)) left most

pub returns-clause-may_turn : goal.returns-clause-may_turn
returns-clause-may_turn L c = λ net cost. law_may_turn net cost

pub returns-clause-steps : goal.returns-clause-steps
returns-clause-steps L c = λ net cost. law_steps_of_turns net cost

pub returns-clause-rests : goal.returns-clause-rests
returns-clause-rests L c = λ net cost. law_rests_too net cost

pub returns-clause-cycle : goal.returns-clause-cycle
returns-clause-cycle L c = λ net cost. law_cycle_fires net cost

pub returns-clause-more_turns : goal.returns-clause-more_turns
returns-clause-more_turns L c = λ net cost producer consumer wired. law_more_turns net cost producer consumer wired

pub returns-clause-none_sooner : goal.returns-clause-none_sooner
returns-clause-none_sooner L c = λ net cost producer consumer wired. law_none_steps_sooner net cost producer consumer wired

pub returns-clause-no_steps_sooner : goal.returns-clause-no_steps_sooner
returns-clause-no_steps_sooner L c = λ net cost producer consumer wired. law_no_steps_sooner net cost producer consumer wired
