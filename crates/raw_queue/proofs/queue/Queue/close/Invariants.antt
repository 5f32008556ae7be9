use Rattle.std.proofs.Common.{◌≡◌, ◌-◌, ◌^◌, List, ◌++◌, length, min, true}
use Rattle.crossbeam_queue.specs.SegTies.{IsSegPassOf}
use Rattle.raw_queue.specs.Views.{view_of}
use Rattle.raw_queue.specs.declared.item.Item.{Item}
use Rattle.raw_queue.proofs.queue.Queue.close.Given as goal

abbrev pub invariant-loop : goal.invariant-loop
invariant-loop g l = record {
  pass : IsSegPassOf l.segments l.pass;
  drained : (out : List Item) × (l.pass.me.view.client ≡ view_of true true l.fn.put.items (l.fn.take.items ++ out)) × (l.count ≡ min (length out) (2 ^ 64 - 1));
}
