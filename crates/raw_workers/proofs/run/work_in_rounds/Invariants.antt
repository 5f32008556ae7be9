use Rattle.std.proofs.Common.{◌≡◌, ◌+◌, ◌≤◌}
use Rattle.raw_model.specs.Bounds.{all_left}
use Rattle.raw_serial.specs.Leading.{HasRun}
use Rattle.raw_workers.proofs.run.work_in_rounds.Given as goal

abbrev pub invariant-rounds : goal.invariant-rounds
invariant-rounds g l = record {
  set : l.machine.set ≡ l.fn.machine.set;
  ran : HasRun l.fn.machine l.machine;
  few : l.count + all_left l.fn.machine.set l.machine.state ≤ all_left l.fn.machine.set l.fn.machine.state;
}

abbrev pub decreases-rounds : goal.decreases-rounds
decreases-rounds g l = all_left l.fn.machine.set l.machine.state
