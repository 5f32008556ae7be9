use Rattle.raw_prove.proofs.Sweeping.{SweepAt}
use Rattle.raw_prove.proofs.machine.Machine.sweep.Given as goal

abbrev pub invariant-loop-p : goal.invariant-loop-p
invariant-loop-p l = SweepAt l.set l.initial.self l.initial.steps l.self l.steps l.p
