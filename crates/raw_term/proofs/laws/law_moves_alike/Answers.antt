use Rattle.raw_term.proofs.Along.{each_moves_alike}
use Rattle.raw_term.proofs.laws.law_moves_alike.Goals as goal

pub returns : goal.returns
returns c = each_moves_alike c.law_words.ensures.operations
