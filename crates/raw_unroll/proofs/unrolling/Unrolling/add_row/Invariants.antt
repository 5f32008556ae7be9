use Rattle.raw_unroll.specs.Known.{IsUnrolled}
use Rattle.raw_unroll.proofs.unrolling.Unrolling.add_row.Given as goal

abbrev pub invariant-loop-v : goal.invariant-loop-v
invariant-loop-v l = IsUnrolled l.self l.stream l.row l.v
