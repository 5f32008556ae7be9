use Rattle.raw_fabric_rule.proofs.ByKind.{needs_sink, gives_sink, fills_sink}
use Rattle.raw_fabric_rule.proofs.laws.law_sink_ends.Goals as goal

pub returns-clause-needs : goal.returns-clause-needs
returns-clause-needs c = needs_sink

pub returns-clause-gives : goal.returns-clause-gives
returns-clause-gives c = gives_sink

pub returns-clause-fills : goal.returns-clause-fills
returns-clause-fills c = fills_sink
