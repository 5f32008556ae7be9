use Rattle.std.proofs.Common.{is_some, sym, ap, ◌∙◌}
use Rattle.raw_model.specs.Local.{Tile}
use Rattle.raw_model.specs.Machine.{tile_effect}
use Rattle.raw_model.specs.TileTable.{next_instruction}
use Rattle.raw_tile.specs.Given.{takes_first, takes_second, out_of}
use Rattle.raw_fabric_rule.specs.Plays.{values_of}
use Rattle.raw_fabric_step.specs.Units.{mine}
use Rattle.raw_fabric_step.specs.Fired.{IsPrepared}
use Rattle.raw_fabric_step.specs.Pairs.{via_end, out_ends}
use Rattle.raw_fabric_step.proofs.TileRows.{given_where, row_needs, row_gives, row_fills, row_sent, row_touches, row_next}
use Rattle.raw_fabric_step.proofs.Pairing.{takes_vias}
use Rattle.raw_fabric_step.proofs.Turning.{kept_more}
use Rattle.raw_fabric_step.proofs.Rows.{may_take, prepared_looked, prepared_held, prepared_more, stepped}
use Rattle.raw_fabric_step.proofs.tiles.execute.Goals as goal

pub see_ends-requires-clause-asks : goal.see_ends-requires-clause-asks
see_ends-requires-clause-asks c =
    let r = c.requires in
    let a = c.args.words.now.key in
    let post = c.args.post.now in
    let u = mine c.args.seat.now.me.0 post.index in
    let l = c.args.state.now in
    let next = ap (λ code. next_instruction code l) (sym r.tile.code_is) ∙ c.requires.ways.1 in
    let ins = c.requires.ways.0 in
    c.pair_asks-asks.ensures a.set post.p u.local
    (row_needs a.set r.stands.seated.post_is.valid post.p r.tile.tile u.local l r.due.local_is ins next c.args.ways.first c.args.ways.second c.requires.ways.2.first_is c.requires.ways.2.second_is)
    (row_gives a.set r.stands.seated.post_is.valid post.p r.tile.tile u.local l r.due.local_is ins next c.args.ways.sent c.requires.ways.2.sent_is
    ∙ (λ i. out_ends (sym c.is_first.ensures i) (sym c.is_second.ensures i)))

pub take_pair-given-requires-clause-may : goal.take_pair-given-requires-clause-may
take_pair-given-requires-clause-may c =
    let r = c.requires in
    let a = c.args.words.now.key in
    let post = c.args.post.now in
    may_take a r.stands.seated.post_is.valid post.p (mine c.args.seat.now.me.0 post.index) (mine c.see_ends.new.seat.me.0 post.index) _ r.due c.in-Ok.ensures.saw

pub take_pair-given-requires-clause-takes : goal.take_pair-given-requires-clause-takes
take_pair-given-requires-clause-takes c =
    let r = c.requires in
    let a = c.args.words.now.key in
    let post = c.args.post.now in
    let z = mine c.see_ends.new.seat.me.0 post.index in
    let l = c.args.state.now in
    let next = ap (λ code. next_instruction code l) (sym r.tile.code_is) ∙ r.ways.1 in
    takes_vias a.set post.p z.local _ _ _ _ c.via_end-first.ensures c.via_end-second.ensures
    (row_needs a.set r.stands.seated.post_is.valid post.p r.tile.tile z.local l (c.see_ends.ensures.looked.local_same ∙ r.due.local_is) r.ways.0 next
    c.args.ways.first c.args.ways.second r.ways.2.first_is r.ways.2.second_is)

pub tile_fire-out-requires-clause-given : goal.tile_fire-out-requires-clause-given
tile_fire-out-requires-clause-given c =
    let ins = c.requires.ways.0 in
    let next = c.requires.ways.1 in
    record {
      first = c.take_pair-given.ensures.taken.first_is ∙ ap is_some (c.via_end-first.ensures ∙ ap via_end c.requires.ways.2.first_is) ∙ given_where _ ins.rs ∙ sym (ap takes_first next);
      second = c.take_pair-given.ensures.taken.second_is ∙ ap is_some (c.via_end-second.ensures ∙ ap via_end c.requires.ways.2.second_is) ∙ given_where _ ins.rt ∙ sym (ap takes_second next);
    }

pub commit_pair-after-requires-clause-takes : goal.commit_pair-after-requires-clause-takes
commit_pair-after-requires-clause-takes c =
    let r = c.requires in
    let a = c.args.words.now.key in
    let post = c.args.post.now in
    let y = mine c.take_pair-given.new.seat.me.0 post.index in
    let l = c.args.state.now in
    let next = ap (λ code. next_instruction code l) (sym r.tile.code_is) ∙ r.ways.1 in
    takes_vias a.set post.p y.local _ _ _ _ c.via_end-first.ensures c.via_end-second.ensures
    (row_needs a.set r.stands.seated.post_is.valid post.p r.tile.tile y.local l (c.take_pair-given.ensures.taken.held.local_same ∙ c.see_ends.ensures.looked.local_same ∙ r.due.local_is) r.ways.0 next
    c.args.ways.first c.args.ways.second r.ways.2.first_is r.ways.2.second_is)

pub commit_pair-after-requires-clause-sends : goal.commit_pair-after-requires-clause-sends
commit_pair-after-requires-clause-sends c =
    let r = c.requires in
    let is = r.stands.seated.post_is.valid in
    let a = c.args.words.now.key in
    let post = c.args.post.now in
    let y = mine c.take_pair-given.new.seat.me.0 post.index in
    let l = c.args.state.now in
    let next = ap (λ code. next_instruction code l) (sym r.tile.code_is) ∙ r.ways.1 in
    let taken = c.take_pair-given.ensures.taken in
    let local_is = taken.held.local_same ∙ c.see_ends.ensures.looked.local_same ∙ r.due.local_is in
    let out = c.tile_fire-out.ensures.out ∙ (λ i. out_of (tile_effect (r.tile.code_is i) l (sym taken.values i))) in
    record {
      fills_are = row_fills a.set is post.p r.tile.tile y.local l local_is r.ways.0 next (values_of y) c.tile_fire-out.result out;
      sent_are = row_sent a.set is post.p r.tile.tile y.local l local_is r.ways.0 next (values_of y) c.tile_fire-out.result out;
    }

pub returns-in-Ok-clause-stepped : goal.returns-in-Ok-clause-stepped
returns-in-Ok-clause-stepped c =
    let r = c.requires in
    let is = r.stands.seated.post_is.valid in
    let a = c.args.words.now.key in
    let post = c.args.post.now in
    let u = mine c.args.seat.now.me.0 post.index in
    let z = mine c.see_ends.new.seat.me.0 post.index in
    let y = mine c.take_pair-given.new.seat.me.0 post.index in
    let l = c.args.state.now in
    let ins = r.ways.0 in
    let next = ap (λ code. next_instruction code l) (sym r.tile.code_is) ∙ r.ways.1 in
    let taken = c.take_pair-given.ensures.taken in
    let prepared : IsPrepared a post.p u y = prepared_more a post.p u z y (prepared_looked a post.p u z c.see_ends.ensures.looked) (prepared_held a post.p z y taken.held) in
    let out = c.tile_fire-out.ensures.out ∙ (λ i. out_of (tile_effect (r.tile.code_is i) l (sym taken.values i))) in
    stepped a post c.commit_pair-after.result (values_of y) (Tile c.tile_fire-out.new.state) c.tile_fire-out.result.touched c.args.seat.now c.take_pair-given.new.seat c.commit_pair-after.new.seat
    (kept_more c.see_ends.ensures.kept c.take_pair-given.ensures.kept) prepared c.commit_pair-after.ensures.same c.commit_pair-after.ensures.fired
    (row_next a.set is post.p r.tile.tile u.local l r.due.local_is ins next (values_of y)
    ∙ (λ i. Tile (tile_effect (sym r.tile.code_is i) l (taken.values i)).next) ∙ ap Tile (sym c.tile_fire-out.ensures.next))
    (row_touches a.set is post.p r.tile.tile u.local l r.due.local_is ins next (values_of y) c.tile_fire-out.result out)
    c.tile_fire-out.ensures.touched
