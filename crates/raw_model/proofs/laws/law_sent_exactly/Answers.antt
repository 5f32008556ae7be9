use Rattle.raw_model.proofs.Exactly.{one_each, none_at_trap}
use Rattle.raw_model.proofs.laws.law_sent_exactly.Goals as goal

pub returns : goal.returns
returns c = record { one_each = one_each; none = none_at_trap }
