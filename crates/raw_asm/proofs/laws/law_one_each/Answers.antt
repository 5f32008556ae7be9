use Rattle.raw_asm.proofs.OneEach.{means}
use Rattle.raw_asm.proofs.laws.law_one_each.Goals as goal

pub returns : goal.returns
returns g c = means
