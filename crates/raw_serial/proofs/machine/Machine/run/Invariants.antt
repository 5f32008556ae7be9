use Rattle.std.proofs.Common.{◌≡◌}
use Rattle.raw_model.specs.Bounds.{all_left}
use Rattle.raw_serial.specs.Leading.{HasRun}
use Rattle.raw_serial.proofs.machine.Machine.run.Given as goal

abbrev pub invariant-runs : goal.invariant-runs
invariant-runs l = (l.self.set ≡ l.initial.self.set) × HasRun l.initial.self l.self

abbrev pub decreases-runs : goal.decreases-runs
decreases-runs l = all_left l.self.set l.self.state
