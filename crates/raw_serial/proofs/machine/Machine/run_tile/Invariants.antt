use Rattle.raw_serial.specs.Leading.{IsRunFor}
use Rattle.raw_serial.proofs.machine.Machine.run_tile.Given as goal

abbrev pub invariant-stalls : goal.invariant-stalls
invariant-stalls l = IsRunFor l.initial.self l.self l.most l.left

abbrev pub decreases-stalls : goal.decreases-stalls
decreases-stalls l = l.left
