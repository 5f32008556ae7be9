use Rattle.std.proofs.Common.{sym}
use Rattle.std.specs.Mem.Slots.{slots_items}
use Rattle.raw_fabric.proofs.Places.{get_at}
use Rattle.raw_fabric.proofs.read.word_at.Goals as goal

pub returns : goal.returns
returns c = sym (get_at (slots_items c.args.closed.now.words) c.args.i c.word.result 0 c.word.ensures)
