use Rattle.raw_steady.proofs.Longest.{each_has_longest, none_below}
use Rattle.raw_steady.proofs.laws.law_longest.Goals as goal

pub returns-clause-is_there : goal.returns-clause-is_there
returns-clause-is_there c = λ set valid. each_has_longest set valid

pub returns-clause-none_below : goal.returns-clause-none_below
returns-clause-none_below c = λ set t us rounds k valid chain is early. none_below set valid t us rounds k chain is early
