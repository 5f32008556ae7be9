use Rattle.std.proofs.Common.{arith, Some, sym, ap, ◌∙◌, subst}
use Rattle.raw_clock.specs.Clock.{goes}
use Rattle.raw_clock.specs.Engine.{Took}
use Rattle.raw_clock.specs.Account.{IsAccount}
use Rattle.raw_clock.proofs.Beside.{tile_keeps}
use Rattle.raw_clock.proofs.Turned.{took_by}
use Rattle.raw_clock.proofs.cycle.take_tile.Goals as goal

pub returns-in_default : goal.returns-in_default
returns-in_default c =
    let m = c.args.machine.now in
    let n = c.give-turn.new.machine in
    let p = c.args.p.0 in
    let turn = c.give-turn.result in
    let before = c.args.passed.now in
    let after = c.give-turn.new.passed in
    let did = c.give-turn.ensures in
    let fits = c.set-set.ensures.fits in
    record {
      goes = c.goes.ensures ∙ ap goes did.turn.answer;
      took = subst (λ b. Took b m n p before after) (sym c.goes.ensures) (took_by m n p turn before after did.turn did.sent);
      tiles =
          λ q tile ne.
          tile_keeps m n p q turn c.set-set.ensures.valid (omega (arith, c.requires.tile, fits.processors)) c.requires.tile tile ne did.turn;
      account = subst (λ g. IsAccount g c.args.cycles c.note.new.self) c.set-set.ensures.value c.note.ensures.account;
      turn = c.note.ensures.turn ∙ ap Some did.turn.answer;
      others = c.note.ensures.others;
      few = did.few;
    }
