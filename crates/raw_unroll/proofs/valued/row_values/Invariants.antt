use Rattle.raw_unroll.specs.Values.{AreNext, AreValues}
use Rattle.raw_unroll.proofs.valued.row_values.Given as goal

abbrev pub invariant-loop-v : goal.invariant-loop-v
invariant-loop-v l = record {
  next : AreNext l.stream l.row l.v l.next.items;
  values : AreValues l.stream l.words l.row l.v l.values.items;
}
