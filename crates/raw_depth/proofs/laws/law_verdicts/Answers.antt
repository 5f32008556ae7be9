use Rattle.raw_depth.proofs.Verdicts.{done_from, not_before, never_from, deadlock_stays, deadlock_at, first_cycle, not_done_at}
use Rattle.raw_depth.proofs.laws.law_verdicts.Goals as goal

pub returns-clause-done : goal.returns-clause-done
returns-clause-done c = λ set from d valid is low high. done_from set valid from is d low high

pub returns-clause-not_before : goal.returns-clause-not_before
returns-clause-not_before c = λ set from d valid is some less. not_before set valid from is d some less

pub returns-clause-never : goal.returns-clause-never
returns-clause-never c = λ set from d g valid is some run. never_from set valid from is d g some run

pub returns-clause-stays : goal.returns-clause-stays
returns-clause-stays c = λ set from d g valid is le run. deadlock_stays set valid from is d g le run

pub returns-clause-deadlock : goal.returns-clause-deadlock
returns-clause-deadlock c = λ set from d valid is le few. deadlock_at set valid from is d le few

pub returns-clause-first : goal.returns-clause-first
returns-clause-first c = λ set from d valid is some less. first_cycle set valid from is d some less

pub returns-clause-not_done : goal.returns-clause-not_done
returns-clause-not_done c = λ set d valid is some few. not_done_at set valid is d some few
