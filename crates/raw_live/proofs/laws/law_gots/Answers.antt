use Rattle.raw_live.proofs.GotLines.{gots_items, gots_grow, gots_rest}
use Rattle.raw_live.proofs.laws.law_gots.Goals as goal

pub returns-clause-items : goal.returns-clause-items
returns-clause-items c = gots_items

pub returns-clause-rest : goal.returns-clause-rest
returns-clause-rest c = gots_rest

pub returns-clause-front : goal.returns-clause-front
returns-clause-front c = λ port front rest. gots_grow front rest port
