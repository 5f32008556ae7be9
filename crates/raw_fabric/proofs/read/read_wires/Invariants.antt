use Rattle.std.proofs.Common.{◌≡◌, ℕ, ◌<◌, [], map}
use Rattle.std.specs.Prelude.{slice_index_or}
use Rattle.std.specs.Mem.Slots.{slots_items}
use Rattle.raw_fabric_rule.specs.Closing.{wire_of}
use Rattle.raw_fabric.proofs.read.read_wires.Given as goal

abbrev pub invariant-loop-w : goal.invariant-loop-w
invariant-loop-w l = (w : ℕ) → w < l.w → slice_index_or (map (λ queue. queue.items) l.queues) w [] ≡ wire_of l.set (slots_items l.closed.words) w
