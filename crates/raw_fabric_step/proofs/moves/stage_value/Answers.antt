use Rattle.std.proofs.Common.{sym, ap, ◌∙◌, subst, arith}
use Rattle.raw_fabric_rule.specs.Views.{View}
use Rattle.raw_fabric_step.specs.declared.post.Side.{Side}
use Rattle.raw_fabric_step.specs.Units.{Steady, Placed, mine, staged_unit}
use Rattle.raw_fabric_step.proofs.Mine.{unit_staged}
use Rattle.raw_fabric_step.proofs.Steady.{steady_staged}
use Rattle.raw_fabric_step.proofs.Moving.{names_out, stage_may, stage_own, stage_after}
use Rattle.raw_fabric_step.proofs.moves.stage_value.Goals as goal

abbrev none : Side
none = record { wire = 0; other = 0; end = 0 }

pub stage-requires-clause-within : goal.stage-requires-clause-within
stage-requires-clause-within c =
    let r = c.requires in
    let s = r.stands in
    (names_out _ _ c.args.post.now s.seated.post_is _ s.seated.placed _ _ _ s.ready c.field_of-k.ensures.value none r.output r.named).within

pub stage-requires-clause-may : goal.stage-requires-clause-may
stage-requires-clause-may c =
    let r = c.requires in
    let s = r.stands in
    stage_may _ _ c.args.post.now s.seated.post_is _ s.seated.placed _ _ _ s.ready c.field_of-k.ensures.value none r.output r.named c.from.result
    (let same = c.from.ensures in omega arith) r.fresh

pub returns-clause-kept : goal.returns-clause-kept
returns-clause-kept c =
    let r = c.requires in
    let s = r.stands in
    let a = c.args.words.now.key in
    let v = c.args.seat.now.me.0 in
    let post = c.args.post.now in
    let view = sym c.stage.ensures.seat.view_is in
    let names = names_out _ _ post s.seated.post_is _ s.seated.placed _ _ _ s.ready c.field_of-k.ensures.value none r.output r.named in
    let own = stage_own _ _ post s.seated.post_is _ s.seated.placed _ _ _ s.ready c.field_of-k.ensures.value none r.output r.named in
    record {
      same = c.stage.ensures.seat.same;
      steady = subst (Steady a post.p v) view (steady_staged a post.p v _ c.from.result _ _ names.word names.place own);
      placed = subst (λ (w : View). Placed a w post.p post.index) view (unit_staged a v post.p post.index s.seated.placed _ c.from.result).0;
    }

pub returns-clause-unit : goal.returns-clause-unit
returns-clause-unit c =
    let r = c.requires in
    let s = r.stands in
    let v = c.args.seat.now.me.0 in
    let post = c.args.post.now in
    ap (λ (w : View). mine w post.index) c.stage.ensures.seat.view_is
    ∙ (unit_staged c.args.words.now.key v post.p post.index s.seated.placed _ c.from.result).1
    ∙ stage_after _ _ post s.seated.post_is _ s.seated.placed _ _ _ s.ready c.field_of-k.ensures.value none r.output r.named c.from.result
    ∙ ap (staged_unit (mine v post.index) c.args.end) c.from.ensures
