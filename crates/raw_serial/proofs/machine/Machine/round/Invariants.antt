use Rattle.std.proofs.Common.{◌-◌}
use Rattle.raw_grid.specs.Topology.{proc_count}
use Rattle.raw_serial.specs.Leading.{IsRunFor}
use Rattle.raw_serial.proofs.machine.Machine.round.Given as goal

abbrev pub invariant-marks : goal.invariant-marks
invariant-marks l = IsRunFor l.initial.self l.self l.most l.left

abbrev pub decreases-marks : goal.decreases-marks
decreases-marks l = proc_count l.self.set.topo - l.from
