use Rattle.raw_serial.specs.Leading.{IsRunFor}
use Rattle.raw_serial.proofs.machine.Machine.settle.Given as goal

abbrev pub invariant-rounds : goal.invariant-rounds
invariant-rounds l = IsRunFor l.initial.self l.self l.most l.left

abbrev pub decreases-rounds : goal.decreases-rounds
decreases-rounds l = l.left
