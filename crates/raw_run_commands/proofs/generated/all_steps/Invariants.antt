use Rattle.std.proofs.Common.{◌≡◌, ◌≤◌, ◌*◌, take, sum_by}
use Rattle.raw_model.specs.Local.{steps_of}
use Rattle.raw_model.specs.declared.limits.TheConstants.{MAX_STEPS}
use Rattle.raw_run_commands.proofs.generated.all_steps.Given as goal

abbrev pub invariant-loop-p : goal.invariant-loop-p
invariant-loop-p l = (l.steps ≡ sum_by steps_of (take l.p l.m.state.locals)) × (l.steps ≤ l.p * MAX_STEPS)
