use Rattle.std.proofs.Common.{◌-◌}
use Rattle.raw_model.specs.Bounds.{most_steps}
use Rattle.raw_prove.specs.Units.{MachineStands}
use Rattle.raw_prove.specs.Runs.{IsReached}
use Rattle.raw_prove.proofs.machine.Machine.run.Given as goal

abbrev pub invariant-sweeps : goal.invariant-sweeps
invariant-sweeps l = MachineStands l.set l.self × IsReached l.set l.self l.steps

abbrev pub decreases-sweeps : goal.decreases-sweeps
decreases-sweeps l = most_steps l.set - l.steps
