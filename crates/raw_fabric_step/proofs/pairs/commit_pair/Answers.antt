use Rattle.std.proofs.Common.{◌≡◌, ℕ, List, length, is_some, sym, ap, ◌∙◌, subst}
use Rattle.std.specs.Prelude.{map}
use Rattle.raw_fabric_rule.specs.Views.{Hold}
use Rattle.raw_fabric_rule.specs.Word.{pack}
use Rattle.raw_fabric_rule.specs.Plays.{bumped, held_value, values_of, counts_after}
use Rattle.raw_fabric_rule.specs.Conditions.{ShowsRow}
use Rattle.raw_fabric_step.specs.Units.{mine}
use Rattle.raw_fabric_step.specs.Fired.{IsPrepared, HasFired}
use Rattle.raw_fabric_step.specs.Pairs.{pair_ends, out_ends}
use Rattle.raw_fabric_step.proofs.Pairing.{named_first, named_second, same_fetched, held_pair, pair_shows, pair_word}
use Rattle.raw_fabric_step.proofs.Rows.{prepared_held, fired_after, fired_now}
use Rattle.raw_fabric_step.proofs.pairs.commit_pair.Goals as goal

pub send_pair-requires-clause-first : goal.send_pair-requires-clause-first
send_pair-requires-clause-first c =
    let r = c.requires in
    let post = c.args.post.now in
    named_first c.args.words.now.key post.p (mine c.args.seat.now.me.0 post.index) c.args.sent_first c.args.sent_second r.stands.seated.post_is.valid r.sends

pub send_pair-requires-clause-second : goal.send_pair-requires-clause-second
send_pair-requires-clause-second c =
    let r = c.requires in
    let post = c.args.post.now in
    named_second c.args.words.now.key post.p (mine c.args.seat.now.me.0 post.index) c.args.sent_first c.args.sent_second r.stands.seated.post_is.valid r.sends

pub commit_row-requires-clause-shows : goal.commit_row-requires-clause-shows
commit_row-requires-clause-shows c =
    let r = c.requires in
    let a = c.args.words.now.key in
    let post = c.args.post.now in
    let u = mine c.args.seat.now.me.0 post.index in
    subst (ShowsRow a post.p) (sym c.send_pair.ensures.unit)
    (pair_shows a post.p u c.args.sent_first c.args.sent_second c.args.first c.args.second r.takes r.sends r.operands)

pub returns-clause-fired : goal.returns-clause-fired
returns-clause-fired c =
    let r = c.requires in
    let ready = r.stands.ready in
    let a = c.args.words.now.key in
    let post = c.args.post.now in
    let v = c.args.seat.now.me.0 in
    let v1 = c.send_pair.new.seat.me.0 in
    let w = c.commit_row.new.seat.me.0 in
    let u = mine v post.index in
    let s1 = c.args.sent_first in
    let s2 = c.args.sent_second in
    let word = c.raised-after.result in
    let unit = c.send_pair.ensures.unit in
    let held = held_pair a post.p u s1 s2 in
    let prepared : IsPrepared a post.p u (mine v1 post.index) = subst (IsPrepared a post.p u) (sym unit) (prepared_held a post.p u _ held) in
    let raised : word ≡ pack (bumped (out_ends (is_some s1) (is_some s2)) (bumped (pair_ends c.args.first c.args.second) u.counts)) =
    c.raised-after.ensures u.counts ready.counted ready.status_is
    ∙ (λ i. pack (bumped (out_ends (c.is_some.ensures i) (c.is_some-2.ensures i)) (bumped (pair_ends c.args.first c.args.second) u.counts))) in
    let word_is : word ≡ pack (counts_after a.set post.p (mine v1 post.index)) =
    pair_word a post.p u s1 s2 c.args.first c.args.second r.takes r.sends word raised ∙ ap (λ (h : Hold). pack (counts_after a.set post.p h)) (sym unit) in
    let now = fired_now a post word c.send_pair.new.seat c.commit_row.new.seat c.commit_row.ensures.committed word_is
    (ap length prepared.counts_same ∙ ready.counted) (ap (λ (h : Hold). length h.seen) unit ∙ ap length held.seen_same ∙ ready.watched)
    (subst (ShowsRow a post.p) (sym unit) (pair_shows a post.p u s1 s2 c.args.first c.args.second r.takes r.sends r.operands)) in
    let values : values_of (mine v1 post.index) ≡ values_of u = ap values_of unit ∙ ap (map held_value) (same_fetched a post.p u s1 s2) in
    fired_after a post.p post.index word (values_of u) v v1 w c.send_pair.ensures.kept.steady prepared
    (subst (λ (l : List ℕ). HasFired a post.p post.index word l v1 w) values now)
