use Rattle.raw_fabric_rule.proofs.Closes.{closes}
use Rattle.raw_fabric_rule.proofs.whole.close_table.Goals as goal

pub returns-clause-closed : goal.returns-clause-closed
returns-clause-closed c = closes {S = Unit {0}} _ _ _ _ _ c.close_with.ensures.values.2
