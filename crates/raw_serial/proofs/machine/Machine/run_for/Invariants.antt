use Rattle.raw_serial.specs.Leading.{IsRunFor}
use Rattle.raw_serial.proofs.machine.Machine.run_for.Given as goal

abbrev pub invariant-sweeps : goal.invariant-sweeps
invariant-sweeps l = IsRunFor l.initial.self l.self l.most l.left

abbrev pub decreases-sweeps : goal.decreases-sweeps
decreases-sweeps l = l.left
