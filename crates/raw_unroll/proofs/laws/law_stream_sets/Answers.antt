use Rattle.raw_unroll.proofs.Placed.{stream_is_set}
use Rattle.raw_unroll.proofs.laws.law_stream_sets.Goals as goal

pub returns : goal.returns
returns c = stream_is_set c.law_unrolled.ensures.lawful c.law_compiled_at.ensures
