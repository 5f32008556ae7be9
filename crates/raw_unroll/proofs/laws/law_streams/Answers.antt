use Rattle.raw_unroll.proofs.Placed.{stream_is_right}
use Rattle.raw_unroll.proofs.laws.law_streams.Goals as goal

pub returns : goal.returns
returns c = stream_is_right c.law_unrolled.ensures.lawful c.law_unrolled.ensures.rows c.law_flow_at.ensures
