use Rattle.raw_serial.specs.Fresh.{IsFirst}
use Rattle.raw_serial.proofs.Resets.{AreReset}
use Rattle.raw_serial.proofs.resetting.reset_processors.Given as goal

abbrev pub invariant-loop-p : goal.invariant-loop-p
invariant-loop-p l = AreReset (IsFirst l.fn.set) l.initial.processors l.processors l.p
