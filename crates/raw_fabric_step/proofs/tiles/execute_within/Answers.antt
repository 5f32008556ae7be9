use Rattle.std.proofs.Common.{◌≡◌, [], is_some, sym, ap, ◌∙◌, refl}
use Rattle.raw_model.specs.Local.{Tile}
use Rattle.raw_model.specs.Machine.{tile_code, tile_effect}
use Rattle.raw_model.specs.TileTable.{next_instruction}
use Rattle.raw_tile.specs.Given.{takes_first, takes_second, out_of}
use Rattle.raw_fabric_rule.specs.Plays.{values_of}
use Rattle.raw_fabric_step.specs.Units.{mine}
use Rattle.raw_fabric_step.specs.Pairs.{via_end}
use Rattle.raw_fabric_step.proofs.TileRows.{ways_within, given_where, row_touches, row_next}
use Rattle.raw_fabric_step.proofs.Turning.{kept_none}
use Rattle.raw_fabric_step.proofs.Rows.{prepared_held, fired_now, stepped}
use Rattle.raw_fabric_step.proofs.Within.{no_values, within_shows, within_word}
use Rattle.raw_fabric_step.proofs.tiles.execute_within.Goals as goal

pub tile_fire-out-requires-clause-given : goal.tile_fire-out-requires-clause-given
tile_fire-out-requires-clause-given c =
    let ins = c.requires.within.0 in
    let next = c.requires.within.1 in
    let ways = ways_within ins c.requires.within.2 in
    record {
      first = ap (λ via. is_some (via_end via)) ways.first_is ∙ given_where _ ins.rs ∙ sym (ap takes_first next);
      second = ap (λ via. is_some (via_end via)) ways.second_is ∙ given_where _ ins.rt ∙ sym (ap takes_second next);
    }

pub commit_row-requires-clause-shows : goal.commit_row-requires-clause-shows
commit_row-requires-clause-shows c =
    let r = c.requires in
    let a = c.args.words.now.key in
    let post = c.args.post.now in
    let l = c.args.state.now in
    within_shows a r.stands.seated.post_is.valid post.p r.tile.tile (mine c.args.seat.now.me.0 post.index) l r.due r.within.0
    (ap (λ code. next_instruction code l) (sym r.tile.code_is) ∙ r.within.1) r.within.2 c.tile_fire-out.result
    (c.tile_fire-out.ensures.out ∙ ap (λ code. out_of (tile_effect code l [])) r.tile.code_is)

pub commit_row-requires-clause-word : goal.commit_row-requires-clause-word
commit_row-requires-clause-word c =
    let r = c.requires in
    let a = c.args.words.now.key in
    let post = c.args.post.now in
    let l = c.args.state.now in
    within_word a r.stands.seated.post_is.valid post.p r.tile.tile (mine c.args.seat.now.me.0 post.index) l r.due r.within.0
    (ap (λ code. next_instruction code l) (sym r.tile.code_is) ∙ r.within.1) r.within.2 c.tile_fire-out.result
    (c.tile_fire-out.ensures.out ∙ ap (λ code. out_of (tile_effect code l [])) r.tile.code_is) c.args.status r.stands.ready

pub returns : goal.returns
returns c =
    let r = c.requires in
    let is = r.stands.seated.post_is.valid in
    let a = c.args.words.now.key in
    let post = c.args.post.now in
    let seat = c.args.seat.now in
    let u = mine seat.me.0 post.index in
    let l = c.args.state.now in
    let ins = r.within.0 in
    let next = ap (λ code. next_instruction code l) (sym r.tile.code_is) ∙ r.within.1 in
    let out : c.tile_fire-out.result ≡ out_of (tile_effect (tile_code a.set post.p) l []) = c.tile_fire-out.ensures.out ∙ ap (λ code. out_of (tile_effect code l [])) r.tile.code_is in
    let none = no_values a is post.p r.tile.tile u l r.due ins next r.within.2 c.tile_fire-out.result out in
    let shows = within_shows a is post.p r.tile.tile u l r.due ins next r.within.2 c.tile_fire-out.result out in
    let word = within_word a is post.p r.tile.tile u l r.due ins next r.within.2 c.tile_fire-out.result out c.args.status r.stands.ready in
    let out' = out ∙ ap (λ values. out_of (tile_effect (tile_code a.set post.p) l values)) (sym none) in
    let done = c.commit_row.ensures.committed in
    stepped a post c.args.status (values_of u) (Tile c.tile_fire-out.new.state) c.tile_fire-out.result.touched seat seat c.commit_row.new.seat
    (kept_none a post seat r.stands.seated.placed) (prepared_held a post.p u u (record { local_same = refl; touches_same = refl; counts_same = refl; seen_same = refl }))
    done.same (fired_now a post c.args.status seat c.commit_row.new.seat done word r.stands.ready.counted r.stands.ready.watched shows)
    (row_next a.set is post.p r.tile.tile u.local l r.due.local_is ins next (values_of u)
    ∙ (λ i. Tile (tile_effect (sym r.tile.code_is i) l (none i)).next) ∙ ap Tile (sym c.tile_fire-out.ensures.next))
    (row_touches a.set is post.p r.tile.tile u.local l r.due.local_is ins next (values_of u) c.tile_fire-out.result out')
    c.tile_fire-out.ensures.touched
