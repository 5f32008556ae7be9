use Rattle.raw_live.proofs.DueWords.{rests_there, says_all, all_small, front_first}
use Rattle.raw_live.proofs.laws.law_due.Goals as goal

pub returns : goal.returns
returns c = record { rest = rests_there; says = says_all; small = all_small; front = front_first }
