use Rattle.std.proofs.Common.{◌-◌, [], ◌∷◌, subst, arith}
use Rattle.std.specs.Prelude.{if◌then◌else◌}
use Rattle.raw_serial.specs.Leading.{HasTaken}
use Rattle.raw_serial.proofs.Leading.{run_past, run_step}
use Rattle.raw_serial.proofs.machine.Machine.step_and_mark.Goals as goal

pub returns-then-not-step-clause-run : goal.returns-then-not-step-clause-run
returns-then-not-step-clause-run c =
    run_past c.args.self.now c.step.new.self c.args.most
    (subst (λ fired. HasTaken c.args.self.now c.step.new.self (if fired then c.args.p.0 ∷ [] else [])) c.if-not-step.true c.step.ensures.taken)

pub returns-clause-run : goal.returns-clause-run
returns-clause-run c =
    run_step c.args.self.now c.step.new.self c.args.p.0 c.args.most (c.args.most - 1) (omega (arith, c.if-most-eq0.false))
    (subst (λ fired. HasTaken c.args.self.now c.step.new.self (if fired then c.args.p.0 ∷ [] else [])) c.if-not-step.false c.step.ensures.taken)
