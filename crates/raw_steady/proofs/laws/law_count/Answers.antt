use Rattle.raw_steady.proofs.Number.{has_count, only_count}
use Rattle.raw_steady.proofs.laws.law_count.Goals as goal

pub returns-clause-has : goal.returns-clause-has
returns-clause-has c = λ set valid. has_count set valid

pub returns-clause-only : goal.returns-clause-only
returns-clause-only c = λ set n valid has. only_count set valid n has
