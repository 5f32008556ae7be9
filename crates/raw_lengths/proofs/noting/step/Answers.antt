use Rattle.std.proofs.Common.{subst}
use Rattle.raw_prove.specs.declared.turn.Turn.{Turn}
use Rattle.raw_cut.specs.Kept.{IsTurnAt}
use Rattle.raw_lengths.specs.declared.noting.Look.{Look}
use Rattle.raw_lengths.specs.Noting.{IsLookOf}
use Rattle.raw_lengths.proofs.noting.step.Goals as goal

pub turn-requires-clause-kept : goal.turn-requires-clause-kept
turn-requires-clause-kept c =
    let stays = subst (λ (look : Look). IsLookOf c.args.set.now c.args.p.0 c.args.machine.now look c.note.new.machine) c.in-Other.is c.in_ok-term.ensures in
    stays.kept 0 c.requires.kept

pub returns-in-Fired-clause-kept : goal.returns-in-Fired-clause-kept
returns-in-Fired-clause-kept c = λ _ spare is.
    let stays = subst (λ (look : Look). IsLookOf c.args.set.now c.args.p.0 c.args.machine.now look c.note.new.machine) c.in-Other.is c.in_ok-term.ensures in
    let fired = subst (λ (turn : Turn). IsTurnAt c.args.set.now c.args.p.0 c.note.new.machine turn c.turn.new.machine) c.in-Fired.is c.in_ok-turn-in-Other.ensures in
    fired.kept spare (stays.kept spare is)
