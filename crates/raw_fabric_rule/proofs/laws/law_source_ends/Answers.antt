use Rattle.raw_fabric_rule.proofs.ByKind.{needs_source, gives_source, fills_source, sent_source}
use Rattle.raw_fabric_rule.proofs.laws.law_source_ends.Goals as goal

pub returns-clause-needs : goal.returns-clause-needs
returns-clause-needs c = needs_source

pub returns-clause-gives : goal.returns-clause-gives
returns-clause-gives c = gives_source

pub returns-clause-fills : goal.returns-clause-fills
returns-clause-fills c = fills_source

pub returns-clause-sent : goal.returns-clause-sent
returns-clause-sent c = sent_source
