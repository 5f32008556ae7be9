use Rattle.std.proofs.Common.{◌++◌, ◌+◌, ◌∙◌, drop, sym, ap}
use Rattle.std.specs.Prelude.{string_bytes}
use Rattle.std.specs.List.{flat_map, enumerate_from}
use Rattle.raw_text.specs.Lines.{written_lines}
use Rattle.raw_set_text.specs.Listing.{memory_lines}
use Rattle.raw_set_text.proofs.Listed.Text.{tile_next, tiles_done}
use Rattle.raw_set_text.proofs.lister.push_memories.Goals as goal

pub loop-tile-preserved : goal.loop-tile-preserved
loop-tile-preserved c =
    let tiles = c.args.tiles.now in
    let given = c.index-tiles-tile.result in
    let t = c.loop-tile.tile in
    let f = memory_lines c.args.topo.now.cols in
    ap (λ text. text ++ written_lines (flat_map f (enumerate_from (t + 1) (drop (t + 1) tiles)))) c.in_ok-push_memory.ensures
    ∙ tile_next f tiles t given given (string_bytes c.loop-tile.text) c.loop-tile-test.true c.index-tiles-tile.is
    ∙ c.loop-tile.invariant

pub returns : goal.returns
returns c =
    sym (tiles_done (memory_lines c.args.topo.now.cols) c.args.tiles.now c.loop-tile.tile (string_bytes c.loop-tile.text) c.loop-tile-test.false) ∙ c.loop-tile.invariant
