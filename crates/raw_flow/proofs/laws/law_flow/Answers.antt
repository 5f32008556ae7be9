use Rattle.raw_flow.proofs.Usual.{flow_is_right}
use Rattle.raw_flow.proofs.laws.law_flow.Goals as goal

pub returns : goal.returns
returns c = flow_is_right c.law_flow_at.ensures
