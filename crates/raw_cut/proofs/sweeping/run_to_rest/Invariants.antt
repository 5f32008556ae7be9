use Rattle.raw_cut.specs.Kept.{IsKept}
use Rattle.raw_cut.proofs.sweeping.run_to_rest.Given as goal

abbrev pub invariant-loop-sweep : goal.invariant-loop-sweep
invariant-loop-sweep l = IsKept l.set l.machine
