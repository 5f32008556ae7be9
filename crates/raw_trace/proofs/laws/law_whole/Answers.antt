use Rattle.raw_trace.proofs.Whole.{turns_spread, turns_longest, turns_stop, mark_stays, turns_spent, sends_summed, sent_once, sends_passed, distances_longest}
use Rattle.raw_trace.proofs.laws.law_whole.Goals as goal

pub returns-clause-turns : goal.returns-clause-turns
returns-clause-turns c = turns_spread

pub returns-clause-longest : goal.returns-clause-longest
returns-clause-longest c = turns_longest

pub returns-clause-stops : goal.returns-clause-stops
returns-clause-stops c = λ set n p valid below. turns_stop set valid p below n

pub returns-clause-marks : goal.returns-clause-marks
returns-clause-marks c = λ set n p k valid below le now. mark_stays set valid p below n k le now

pub returns-clause-spent : goal.returns-clause-spent
returns-clause-spent c = turns_spent

pub returns-clause-sent : goal.returns-clause-sent
returns-clause-sent c = sends_summed

pub returns-clause-once : goal.returns-clause-once
returns-clause-once c = sent_once

pub returns-clause-passed : goal.returns-clause-passed
returns-clause-passed c = λ set n w valid within. sends_passed set valid n w within

pub returns-clause-longest_distances : goal.returns-clause-longest_distances
returns-clause-longest_distances c = distances_longest
