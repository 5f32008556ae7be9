use Rattle.raw_model.specs.Bounds.{all_left}
use Rattle.raw_workers.specs.Kept.{IsKeptOn}
use Rattle.raw_workers.proofs.record.Kept.take_all.Given as goal

abbrev pub invariant-steps : goal.invariant-steps
invariant-steps l = IsKeptOn l.fn.self.machine.set l.fn.self l.self

abbrev pub decreases-steps : goal.decreases-steps
decreases-steps l = all_left l.self.machine.set l.self.machine.state
