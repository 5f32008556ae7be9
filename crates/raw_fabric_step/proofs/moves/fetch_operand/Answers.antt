use Rattle.std.proofs.Common.{sym, ap, ◌∙◌, subst}
use Rattle.raw_fabric_rule.specs.Views.{View}
use Rattle.raw_fabric_step.specs.declared.post.Side.{Side}
use Rattle.raw_fabric_step.specs.Units.{Steady, Placed, mine}
use Rattle.raw_fabric_step.proofs.Mine.{unit_fetched}
use Rattle.raw_fabric_step.proofs.Steady.{steady_fetched}
use Rattle.raw_fabric_step.proofs.Moving.{names_in, fetch_may, fetch_own, fetch_after}
use Rattle.raw_fabric_step.proofs.moves.fetch_operand.Goals as goal

abbrev none : Side
none = record { wire = 0; other = 0; end = 0 }

pub fetch-requires-clause-within : goal.fetch-requires-clause-within
fetch-requires-clause-within c =
    let s = c.requires.stands in
    let o = c.requires.operand in
    (names_in _ _ c.args.post.now s.seated.post_is _ s.seated.placed _ _ _ s.ready c.field_of.ensures.value none o.input o.needed _ o.few o.shown).within

pub fetch-requires-clause-may : goal.fetch-requires-clause-may
fetch-requires-clause-may c =
    let s = c.requires.stands in
    let o = c.requires.operand in
    fetch_may _ _ c.args.post.now s.seated.post_is _ s.seated.placed _ _ _ s.ready c.field_of.ensures.value none o.input o.needed _ o.few o.shown

pub returns-clause-kept : goal.returns-clause-kept
returns-clause-kept c =
    let s = c.requires.stands in
    let o = c.requires.operand in
    let a = c.args.words.now.key in
    let v = c.args.seat.now.me.0 in
    let post = c.args.post.now in
    let view = sym c.fetch.ensures.seat.view_is in
    let names = names_in _ _ post s.seated.post_is _ s.seated.placed _ _ _ s.ready c.field_of.ensures.value none o.input o.needed _ o.few o.shown in
    let own = fetch_own _ _ post s.seated.post_is _ s.seated.placed _ _ _ s.ready c.field_of.ensures.value none o.input o.needed _ o.few o.shown in
    record {
      same = c.fetch.ensures.seat.same;
      steady = subst (Steady a post.p v) view (steady_fetched a post.p v _ c.fetch.result _ _ names.word names.place own);
      placed = subst (λ (w : View). Placed a w post.p post.index) view (unit_fetched a v post.p post.index s.seated.placed _ c.fetch.result).0;
    }

pub returns-clause-unit : goal.returns-clause-unit
returns-clause-unit c =
    let s = c.requires.stands in
    let o = c.requires.operand in
    let post = c.args.post.now in
    ap (λ (w : View). mine w post.index) c.fetch.ensures.seat.view_is
    ∙ (unit_fetched c.args.words.now.key c.args.seat.now.me.0 post.p post.index s.seated.placed _ c.fetch.result).1
    ∙ fetch_after _ _ post s.seated.post_is _ s.seated.placed _ _ _ s.ready c.field_of.ensures.value none o.input o.needed _ o.few o.shown c.fetch.result
