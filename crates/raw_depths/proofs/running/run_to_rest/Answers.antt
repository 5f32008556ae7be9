use Rattle.std.proofs.Common.{refl}
use Rattle.raw_depths.proofs.Rests.{rested}
use Rattle.raw_depths.proofs.running.run_to_rest.Goals as goal

pub returns : goal.returns
returns c =
    rested c.args.set.now c.in_ok-machine.machine c.run.new.machine c.in_ok-ran.ran c.in_ok-machine.ensures c.run.ensures.set
    c.set-set.ensures.valid c.in_ok-ran.ensures.counted c.in_ok-ran.ensures.steps _ c.outcome-outcome.ensures c.program_steps-steps.ensures refl
    c.law_count.ensures.only c.in_ok-report.ensures c.in_ok-waits.ensures
