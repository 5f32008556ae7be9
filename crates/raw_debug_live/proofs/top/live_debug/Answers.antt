use Rattle.raw_debug_live.proofs.Promising.{promises_of}
use Rattle.raw_debug_live.proofs.top.live_debug.Goals as goal

pub returns : goal.returns
returns g c = promises_of _ _ c.answer_live.ensures
