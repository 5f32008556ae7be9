use Rattle.raw_fabric_rule.proofs.ByKind.{needs_tile, gives_tile, fills_tile, sent_tile, next_tile}
use Rattle.raw_fabric_rule.proofs.laws.law_tile_ends.Goals as goal

pub returns-clause-needs : goal.returns-clause-needs
returns-clause-needs c = λ set p l is lt. needs_tile set is p lt l

pub returns-clause-gives : goal.returns-clause-gives
returns-clause-gives c = λ set p l is lt. gives_tile set is p lt l

pub returns-clause-fills : goal.returns-clause-fills
returns-clause-fills c = λ set p l values is lt. fills_tile set is p lt l values

pub returns-clause-sent : goal.returns-clause-sent
returns-clause-sent c = λ set p l values is lt. sent_tile set is p lt l values

pub returns-clause-next : goal.returns-clause-next
returns-clause-next c = next_tile
