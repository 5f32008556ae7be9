use Rattle.raw_fabric_rule.proofs.ByKind.{joined, asks_input, asks_output}
use Rattle.raw_fabric_rule.proofs.laws.law_ends.Goals as goal

pub returns-clause-wires : goal.returns-clause-wires
returns-clause-wires c = λ set w p o q i is. joined set is w p o q i

pub returns-clause-switch_input : goal.returns-clause-switch_input
returns-clause-switch_input c = asks_input

pub returns-clause-switch_output : goal.returns-clause-switch_output
returns-clause-switch_output c = asks_output
