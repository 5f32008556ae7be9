use Rattle.raw_clock.proofs.Clocking.{law_clock_at, law_cycle_in_any_order, law_ends, law_rests, law_no_step_sooner, law_no_turn_sooner, law_none_over_sooner, law_at_least, law_at_most, law_step_schedule, law_steps_at_least}
use Rattle.raw_clock.proofs.Spending.{law_spent}
use Rattle.raw_clock.proofs.laws.law_clock.Goals as goal

pub returns-clause-at : goal.returns-clause-at
returns-clause-at c = λ set k valid. law_clock_at set valid k

pub returns-clause-any_order : goal.returns-clause-any_order
returns-clause-any_order c = λ set k valid. law_cycle_in_any_order set valid k

pub returns-clause-ends : goal.returns-clause-ends
returns-clause-ends c = λ set valid. law_ends set valid

pub returns-clause-rests : goal.returns-clause-rests
returns-clause-rests c = λ set n valid has. law_rests set valid n has

pub returns-clause-none_sooner : goal.returns-clause-none_sooner
returns-clause-none_sooner c = λ set rounds k p valid is. law_no_step_sooner set valid rounds k p is

pub returns-clause-no_turn_sooner : goal.returns-clause-no_turn_sooner
returns-clause-no_turn_sooner c = λ set rounds k p valid is. law_no_turn_sooner set valid rounds k p is

pub returns-clause-none_over_sooner : goal.returns-clause-none_over_sooner
returns-clause-none_over_sooner c = λ set n valid has. law_none_over_sooner set valid n has

pub returns-clause-at_least : goal.returns-clause-at_least
returns-clause-at_least c = λ set n p valid. law_at_least set valid n p

pub returns-clause-at_most : goal.returns-clause-at_most
returns-clause-at_most c = λ set n valid has. law_at_most set valid n has

pub returns-clause-spent : goal.returns-clause-spent
returns-clause-spent c = λ set n p valid below. law_spent set valid n p below

pub returns-clause-no_step_sooner : goal.returns-clause-no_step_sooner
returns-clause-no_step_sooner c = λ set rounds k p valid is. law_step_schedule set valid rounds k p is

pub returns-clause-steps_at_least : goal.returns-clause-steps_at_least
returns-clause-steps_at_least c = λ set n p valid. law_steps_at_least set valid n p
