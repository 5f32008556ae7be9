use Rattle.std.proofs.Common.{sym, ap, ◌∙◌, subst}
use Rattle.raw_fabric_rule.specs.Views.{View}
use Rattle.raw_fabric_step.specs.Units.{Logged, Placed, mine}
use Rattle.raw_fabric_step.proofs.Mine.{unit_fired, unit_has, unit_stood}
use Rattle.raw_fabric_step.proofs.Steady.{logged_fired}
use Rattle.raw_fabric_step.proofs.Moving.{may_fire, fire_own}
use Rattle.raw_fabric_step.proofs.moves.commit_row.Goals as goal

pub commit-requires-clause-may : goal.commit-requires-clause-may
commit-requires-clause-may c =
    let s = c.requires.seated in
    let post = c.args.post.now in
    may_fire c.args.words.now.key s.post_is.valid post.p post.index 0 c.args.seat.now.me.0 s.placed c.args.word c.requires.shows c.requires.word

pub returns : goal.returns
returns c =
    let a = c.args.words.now.key in
    let v = c.args.seat.now.me.0 in
    let p = c.args.post.now.p in
    let i = c.args.post.now.index in
    let placed = c.requires.seated.placed in
    let seat = c.commit.ensures.seat in
    let view = sym seat.view_is in
    let done = c.commit.ensures.committed in
    record {
      committed = record {
        same = seat.same;
        view_is = seat.view_is;
        logged = subst (Logged a p v) view (logged_fired a p v i placed);
        placed = subst (λ (w : View). Placed a w p i) view (unit_fired a v p i placed).0;
        unit_is = ap (λ (w : View). mine w i) seat.view_is ∙ (unit_fired a v p i placed).1 ∙ fire_own a p (mine v i);
        stood = unit_stood a v p i placed done.stood;
        step = done.step;
        words = done.words (mine v i) (unit_has a v p i placed);
      };
    }
