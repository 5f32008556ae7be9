use Rattle.std.proofs.Common.{refl, ◌∙◌}
use Rattle.raw_serial.proofs.Taking.{run_none_taken, run_some, run_then, run_leads}
use Rattle.raw_serial.proofs.machine.Machine.run.Goals as goal

pub runs-init : goal.runs-init
runs-init c = (refl, run_none_taken c.args.self.now)

pub returns-then-run_for-clause-ran : goal.returns-then-run_for-clause-ran
returns-then-run_for-clause-ran c = run_then c.args.self.now c.runs.self c.run_for.new.self c.runs.invariant.1 (run_some c.runs.self c.run_for.new.self c.run_for.result.steps c.run_for.ensures.ran)

pub returns-then-run_for-clause-led : goal.returns-then-run_for-clause-led
returns-then-run_for-clause-led c =
    run_leads c.args.self.now c.run_for.new.self
    (run_then c.args.self.now c.runs.self c.run_for.new.self c.runs.invariant.1 (run_some c.runs.self c.run_for.new.self c.run_for.result.steps c.run_for.ensures.ran))

pub runs-preserved : goal.runs-preserved
runs-preserved c = (
  c.run_for.ensures.set ∙ c.runs.invariant.0,
  run_then c.args.self.now c.runs.self c.run_for.new.self c.runs.invariant.1 (run_some c.runs.self c.run_for.new.self c.run_for.result.steps c.run_for.ensures.ran),
)
