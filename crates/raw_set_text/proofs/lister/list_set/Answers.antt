use Rattle.std.proofs.Common.{◌≡◌, ℕ, ◌++◌, ◌+◌, ◌∙◌, Vec, Global, drop, sym, ap, subst, ◌<◌, ◌≤◌, length}
use Rattle.std.specs.List.{flat_map, enumerate_from}
use Rattle.raw_text.specs.Lines.{written_lines}
use Rattle.raw_text.proofs.WrittenLines.{written_append}
use Rattle.raw_model.specs.Program.{ProgramSet}
use Rattle.raw_set_text.specs.Listing.{front_lines, program_lines, listing}
use Rattle.raw_set_text.proofs.Listed.Text.{tile_next, tiles_done}
use Rattle.raw_set_text.proofs.lister.list_set.Goals as goal

pub loop-tile-init : goal.loop-tile-init
unfolding listing
loop-tile-init c =
    let set = c.args.set.now in
    let rest = flat_map (program_lines set.topo.cols) (enumerate_from 0 set.tiles) in
    let bytes : c.into_bytes-text.result.items ≡ written_lines (front_lines set) = ap (λ (v : Vec ℕ Global). v.items) c.into_bytes-text.ensures.value ∙ c.in_ok-front.ensures in
    ap (λ text. text ++ written_lines (flat_map (program_lines set.topo.cols) (enumerate_from 0 set.tiles))) bytes
    ∙ sym (written_append (front_lines set) rest)

pub loop-tile-preserved : goal.loop-tile-preserved
loop-tile-preserved c =
    let tiles = c.args.set.now.tiles in
    let t = c.loop-tile.tile in
    let f = program_lines c.args.set.now.topo.cols in
    let same = c.deref-given-items.ensures.value ∙ ap (λ (s : ProgramSet). s.tiles) c.set.view_is in
    let columns = ap (λ (s : ProgramSet). s.topo.cols) c.set.view_is in
    let pushed = c.in_ok-push_programs.ensures ∙ ap (λ n. c.loop-tile.text.items ++ written_lines (program_lines n (t, c.given-item.result))) columns in
    ap (λ text. text ++ written_lines (flat_map f (enumerate_from (t + 1) (drop (t + 1) tiles)))) pushed
    ∙ tile_next f tiles t c.given-item.result c.given-item.result c.loop-tile.text.items (subst (λ xs. t < length xs) same c.loop-tile-test.true) (rw same at c.given-item.is)
    ∙ c.loop-tile.invariant

pub returns : goal.returns
returns c =
    let same = c.deref-given-items.ensures.value ∙ ap (λ (s : ProgramSet). s.tiles) c.set.view_is in
    sym (tiles_done (program_lines c.args.set.now.topo.cols) c.args.set.now.tiles c.loop-tile.tile c.loop-tile.text.items (subst (λ xs. length xs ≤ c.loop-tile.tile) same c.loop-tile-test.false))
    ∙ c.loop-tile.invariant
