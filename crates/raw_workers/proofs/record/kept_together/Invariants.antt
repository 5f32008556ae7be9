use Rattle.raw_model.specs.Bounds.{all_left}
use Rattle.raw_workers.specs.Kept.{IsKeptBeside}
use Rattle.raw_workers.proofs.record.kept_together.Given as goal

abbrev pub invariant-rounds : goal.invariant-rounds
invariant-rounds g l = IsKeptBeside l.fn.set l.kept l.machine

abbrev pub decreases-rounds : goal.decreases-rounds
decreases-rounds g l = all_left l.fn.set l.machine.state
