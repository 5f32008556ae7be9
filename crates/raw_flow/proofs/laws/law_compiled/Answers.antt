use Rattle.raw_flow.proofs.Usual.{is_set}
use Rattle.raw_flow.proofs.laws.law_compiled.Goals as goal

pub returns : goal.returns
returns c = is_set c.law_compiled_at.ensures
