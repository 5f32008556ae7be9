use Rattle.std.proofs.Common.{subst}
use Rattle.raw_prove.specs.declared.turn.Turn.{Turn}
use Rattle.raw_cut.specs.Kept.{IsTurnAt}
use Rattle.raw_cut.proofs.sweeping.step.Goals as goal

pub returns-in-Idle : goal.returns-in-Idle
returns-in-Idle c =
    let step = subst (λ (turn : Turn). IsTurnAt c.args.set.now c.args.p c.args.machine.now turn c.turn.new.machine) c.in-Idle.is c.in_ok-turn.ensures in
    step.kept 0 c.requires.kept

pub returns-in_ok-push-in-Fired : goal.returns-in_ok-push-in-Fired
returns-in_ok-push-in-Fired c =
    let step = subst (λ (turn : Turn). IsTurnAt c.args.set.now c.args.p c.args.machine.now turn c.turn.new.machine) c.in-Fired.is c.in_ok-turn.ensures in
    step.kept 0 c.requires.kept
