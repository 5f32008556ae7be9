use Rattle.raw_fabric_rule.proofs.ByKind.{needs_switch, gives_switch, fills_switch, sent_switch, next_switch}
use Rattle.raw_fabric_rule.proofs.laws.law_switch_ends.Goals as goal

pub returns-clause-needs : goal.returns-clause-needs
returns-clause-needs c = λ set tile l is. needs_switch set is tile l

pub returns-clause-gives : goal.returns-clause-gives
returns-clause-gives c = λ set tile l is. gives_switch set is tile l

pub returns-clause-fills : goal.returns-clause-fills
returns-clause-fills c = λ set tile l values is. fills_switch set is tile l values

pub returns-clause-sent : goal.returns-clause-sent
returns-clause-sent c = λ set tile l values is. sent_switch set is tile l values

pub returns-clause-next : goal.returns-clause-next
returns-clause-next c = λ set tile l values is. next_switch set is tile l values
