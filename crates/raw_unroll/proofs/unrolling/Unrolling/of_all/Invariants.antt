use Rattle.raw_unroll.specs.Known.{IsUnrolled}
use Rattle.raw_unroll.proofs.unrolling.Unrolling.of_all.Given as goal

abbrev pub invariant-loop-row : goal.invariant-loop-row
invariant-loop-row l = IsUnrolled l.unrolling l.stream l.row 0
