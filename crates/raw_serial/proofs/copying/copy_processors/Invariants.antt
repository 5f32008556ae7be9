use Rattle.raw_serial.specs.Copied.{IsCopyAt}
use Rattle.raw_serial.proofs.Resets.{AreReset}
use Rattle.raw_serial.proofs.copying.copy_processors.Given as goal

abbrev pub invariant-loop-p : goal.invariant-loop-p
invariant-loop-p l = AreReset (IsCopyAt l.initial.processors l.fn.others) l.initial.processors l.processors l.p
