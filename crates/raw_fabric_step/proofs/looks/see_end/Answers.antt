use Rattle.std.proofs.Common.{◌<◌, subst, sym, ap, ◌∙◌}
use Rattle.raw_fabric_rule.specs.Word.{field}
use Rattle.raw_fabric_step.specs.declared.post.Side.{Side}
use Rattle.raw_fabric_step.proofs.Looking.{other_there, end_there, kept, shown, unmet}
use Rattle.raw_fabric_step.proofs.looks.see_end.Goals as goal

abbrev none : Side
none = record { wire = 0; other = 0; end = 0 }

pub look_for-word-requires-clause-there : goal.look_for-word-requires-clause-there
look_for-word-requires-clause-there c =
    let r = c.requires in
    other_there _ _ c.args.post.now r.stands.seated.post_is _ _ r.stands.ready _ _ r.asks.within r.asks.some r.asks.asked_is none

pub field_of-theirs-requires : goal.field_of-theirs-requires
field_of-theirs-requires c =
    let r = c.requires in
    subst (λ e. e < 20) (sym c.from.ensures) (end_there _ _ c.args.post.now r.stands.seated.post_is _ _ r.stands.ready _ _ r.asks.within r.asks.some r.asks.asked_is none)

pub returns-then-is_unmet-clause-looked : goal.returns-then-is_unmet-clause-looked
returns-then-is_unmet-clause-looked c =
    let r = c.requires in
    let look = c.look_for-word in
    kept _ _ c.args.post.now r.stands.seated.post_is _ _ r.stands.ready _ _ r.asks.within r.asks.some r.asks.asked_is none look.new.seat.me.0 look.result _ _
    c.field_of-ours.ensures.value (c.field_of-theirs.ensures.value ∙ ap (λ e. field e look.result) c.from.ensures) look.ensures.unit look.ensures.tells

pub returns-else-is_unmet-clause-looked : goal.returns-else-is_unmet-clause-looked
returns-else-is_unmet-clause-looked c =
    let r = c.requires in
    let look = c.look_for-word in
    kept _ _ c.args.post.now r.stands.seated.post_is _ _ r.stands.ready _ _ r.asks.within r.asks.some r.asks.asked_is none look.new.seat.me.0 look.result _ _
    c.field_of-ours.ensures.value (c.field_of-theirs.ensures.value ∙ ap (λ e. field e look.result) c.from.ensures) look.ensures.unit look.ensures.tells

pub returns-then-is_unmet-clause-unmet : goal.returns-then-is_unmet-clause-unmet
returns-then-is_unmet-clause-unmet c =
    let r = c.requires in
    let look = c.look_for-word in
    unmet _ _ c.args.post.now r.stands.seated.post_is _ _ r.stands.ready _ _ r.asks.within r.asks.some r.asks.asked_is none look.new.seat.me.0 look.result _ _
    c.field_of-ours.ensures.value (c.field_of-theirs.ensures.value ∙ ap (λ e. field e look.result) c.from.ensures) look.ensures.unit look.ensures.tells
    (sym c.is_unmet.ensures ∙ c.if-is_unmet.true) look.ensures.noted

pub returns-else-is_unmet-clause-shown : goal.returns-else-is_unmet-clause-shown
returns-else-is_unmet-clause-shown c =
    let r = c.requires in
    let look = c.look_for-word in
    shown _ _ c.args.post.now r.stands.seated.post_is _ _ r.stands.ready _ _ r.asks.within r.asks.some r.asks.asked_is none look.new.seat.me.0 look.result _ _
    c.field_of-ours.ensures.value (c.field_of-theirs.ensures.value ∙ ap (λ e. field e look.result) c.from.ensures) look.ensures.unit look.ensures.tells
    (sym c.is_unmet.ensures ∙ c.if-is_unmet.false)
