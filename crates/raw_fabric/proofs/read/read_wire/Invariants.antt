use Rattle.std.proofs.Common.{◌≡◌}
use Rattle.std.specs.Mem.Slots.{slots_items}
use Rattle.raw_fabric_rule.specs.Word.{data_word, flight}
use Rattle.raw_fabric.proofs.read.read_wire.Given as goal

abbrev pub invariant-loop-i : goal.invariant-loop-i
invariant-loop-i l = l.queue.items ≡ flight (data_word l.set (slots_items l.closed.words) l.wire) l.taken l.i
