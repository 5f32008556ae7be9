use Rattle.raw_flow.proofs.Walks.{input_value, const_value, apply_value}
use Rattle.raw_flow.proofs.laws.law_values.Goals as goal

pub returns : goal.returns
returns c = record { input = input_value; constant = const_value; operation = apply_value }
