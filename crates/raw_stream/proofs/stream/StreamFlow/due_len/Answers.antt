use Rattle.std.proofs.Common.{rules}
use Rattle.raw_stream.proofs.Sums.{due_more}
use Rattle.raw_stream.proofs.stream.StreamFlow.due_len.Goals as goal

pub loop-place-preserved : goal.loop-place-preserved
loop-place-preserved c = record {
  count = search (rules, c.loop-place.invariant.count, c.gives-count.ensures, c.index.ensures, due_more);
  few = search (rules, c.loop-place.invariant.few, c.gives-count.ensures);
}
