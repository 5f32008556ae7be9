use Rattle.raw_model.specs.Bounds.{all_left}
use Rattle.raw_workers.specs.Kept.{IsKept}
use Rattle.raw_workers.proofs.record.work_kept.Given as goal

abbrev pub invariant-sweeps : goal.invariant-sweeps
invariant-sweeps g l = IsKept l.fn.set l.kept

abbrev pub decreases-sweeps : goal.decreases-sweeps
decreases-sweeps g l = all_left l.kept.machine.set l.kept.machine.state
