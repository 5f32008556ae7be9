use Rattle.raw_lost.proofs.Sums.{lost_add_up}
use Rattle.raw_lost.proofs.laws.law_lost.Goals as goal

pub returns : goal.returns
returns c = λ set n p valid below. lost_add_up set p n valid below
