use Rattle.raw_cut.specs.Kept.{IsKept}
use Rattle.raw_cut.proofs.sweeping.sweep.Given as goal

abbrev pub invariant-loop-p : goal.invariant-loop-p
invariant-loop-p l = IsKept l.set l.machine
