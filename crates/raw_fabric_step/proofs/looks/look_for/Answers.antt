use Rattle.std.proofs.Common.{sym, ap, ◌∙◌, subst}
use Rattle.raw_fabric_rule.specs.Views.{Hold, View}
use Rattle.raw_fabric_rule.specs.Plays.{LookTells}
use Rattle.raw_fabric_step.specs.Causes.{HasLooked}
use Rattle.raw_fabric_step.specs.Units.{Steady, Placed, mine}
use Rattle.raw_fabric_step.proofs.Mine.{unit_looked, unit_told}
use Rattle.raw_fabric_step.proofs.Steady.{steady_looked, look_noted}
use Rattle.raw_fabric_step.proofs.looks.look_for.Goals as goal

pub returns-clause-kept : goal.returns-clause-kept
returns-clause-kept c =
    let a = c.args.words.now.key in
    let v = c.args.seat.now.me.0 in
    let post = c.args.post.now in
    let view = sym c.look.ensures.seat.view_is in
    record {
      same = c.look.ensures.seat.same;
      steady = subst (Steady a post.p v) view (steady_looked a post.p v c.args.q c.look.result c.look.ensures.tells);
      placed = subst (λ (w : View). Placed a w post.p post.index) view (unit_looked a v post.p post.index c.requires.seated.placed c.args.q c.look.result).0;
    }

pub returns-clause-unit : goal.returns-clause-unit
returns-clause-unit c =
    let post = c.args.post.now in
    ap (λ (v : View). mine v post.index) c.look.ensures.seat.view_is
    ∙ (unit_looked c.args.words.now.key c.args.seat.now.me.0 post.p post.index c.requires.seated.placed c.args.q c.look.result).1

pub returns-clause-tells : goal.returns-clause-tells
returns-clause-tells c =
    let a = c.args.words.now.key in
    let v = c.args.seat.now.me.0 in
    let post = c.args.post.now in
    let i = post.index in
    subst (λ (z : Hold). LookTells a v post.p c.args.q c.look.result (mine v i) z) (sym (returns-clause-unit c))
    (unit_told a v post.p i c.requires.seated.placed c.args.q c.look.result c.look.ensures.tells)

pub returns-clause-noted : goal.returns-clause-noted
returns-clause-noted c =
    let v = c.args.seat.now.me.0 in
    let q = c.args.q in
    let x = c.look.result in
    subst (HasLooked q x v) (sym c.look.ensures.seat.view_is) (look_noted v q x)
