use Rattle.std.proofs.Common.{inl, inr, refl, subst}
use Rattle.raw_prove.specs.declared.turn.Turn.{Turn}
use Rattle.raw_prove.specs.Turns.{IsTurnOf}
use Rattle.raw_prove.proofs.machine.Machine.take_turn.Goals as goal

pub returns-in-Idle : goal.returns-in-Idle
returns-in-Idle c = inl (subst (λ (turn : Turn). IsTurnOf c.args.set.now c.args.p.0 c.args.self.now turn c.turn.new.self) c.in-Idle.is c.in_ok-turn.ensures, refl)

pub returns-in-Fired : goal.returns-in-Fired
returns-in-Fired c = inr (subst (λ (turn : Turn). IsTurnOf c.args.set.now c.args.p.0 c.args.self.now turn c.turn.new.self) c.in-Fired.is c.in_ok-turn.ensures, refl)

pub returns-in-Hangs : goal.returns-in-Hangs
returns-in-Hangs c = (subst (λ (turn : Turn). IsTurnOf c.args.set.now c.args.p.0 c.args.self.now turn c.turn.new.self) c.in-Hangs.is c.in_ok-turn.ensures, refl, refl)

pub returns-in-TooMany : goal.returns-in-TooMany
returns-in-TooMany c = subst (λ (turn : Turn). IsTurnOf c.args.set.now c.args.p.0 c.args.self.now turn c.turn.new.self) c.in-TooMany.is c.in_ok-turn.ensures
