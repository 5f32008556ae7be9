use Rattle.raw_cut.specs.Kept.{IsKept}
use Rattle.raw_lengths.proofs.searching.Search.recur.Given as goal

abbrev pub invariant-loop-count : goal.invariant-loop-count
invariant-loop-count l = IsKept l.set l.machine
