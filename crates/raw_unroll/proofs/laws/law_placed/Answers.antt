use Rattle.raw_unroll.proofs.Placed.{stream_is_placed}
use Rattle.raw_unroll.proofs.laws.law_placed.Goals as goal

pub returns : goal.returns
returns c = stream_is_placed c.law_unrolled.ensures.lawful
