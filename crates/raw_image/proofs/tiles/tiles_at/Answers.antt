use Rattle.std.proofs.Common.{◌+◌, ◌++◌, ◌∷◌, [], length, ap, sym, ◌∙◌}
use Rattle.std.proofs.lemmas.Result.{err_from_is_err_and}
use Rattle.raw_grid.specs.Topology.{tile_count}
use Rattle.raw_image.specs.Reading.{tile_at, tiles_at, room_behind, room_after}
use Rattle.raw_image.proofs.Loop.{listed, goes_on, ends, one_read, one_fails, length-push, room_push}
use Rattle.raw_image.proofs.tiles.tiles_at.Goals as goal

pub returns-in_err-given : goal.returns-in_err-given
returns-in_err-given c =
    let q = err_from_is_err_and c.from_residual.result c.from_residual.ensures.1 in
    let topo = c.args.topo.now in
    let wired = rw (← c.loop-tile.invariant.size) at c.wired_ends-wired.ensures in
    let read = c.in_err-given.ensures.read topo (tile_count topo + length c.loop-tile.tiles.items) wired in
    rw (q.1, q.2)
    (ends (listed (λ before. tile_at c.args.version topo (tile_count topo + length before) (room_behind before))) c.in_err-given.field-0.0 (tile_count topo) c.loop-tile.tile c.loop-tile.tiles.items c.loop-tile.rest.now (tiles_at c.args.version topo c.args.bytes.now) (rw (← c.tiles-tile-end.ensures.value) c.loop-tile-test.true)
    (one_fails c.in_err-given.field-0.0 (tile_at c.args.version topo (tile_count topo + length c.loop-tile.tiles.items) (room_behind c.loop-tile.tiles.items) c.loop-tile.rest.now) c.loop-tile.tiles.items (rw (← c.loop-tile.invariant.room) read)) c.loop-tile.invariant.read)

pub loop-tile-preserved : goal.loop-tile-preserved
loop-tile-preserved c =
    let topo = c.args.topo.now in
    let wired = rw (← c.loop-tile.invariant.size) at c.wired_ends-wired.ensures in
    let read = c.in_ok-given.ensures.read topo (tile_count topo + length c.loop-tile.tiles.items) wired in
    record {
      read = rw c.in_ok-push.ensures.items
          (goes_on (listed (λ before. tile_at c.args.version topo (tile_count topo + length before) (room_behind before))) (tile_count topo) c.loop-tile.tile c.loop-tile.tiles.items c.loop-tile.rest.now (c.loop-tile.tiles.items ++ c.in_ok-given.given ∷ []) c.in_ok-given.after.now (tiles_at c.args.version topo c.args.bytes.now) (rw (← c.tiles-tile-end.ensures.value) c.loop-tile-test.true)
          (one_read (tile_at c.args.version topo (tile_count topo + length c.loop-tile.tiles.items) (room_behind c.loop-tile.tiles.items) c.loop-tile.rest.now) c.loop-tile.tiles.items c.in_ok-given.given c.in_ok-given.after.now (rw (← c.loop-tile.invariant.room) read)) c.loop-tile.invariant.read);
      size = ap length c.in_ok-push.ensures.items ∙ length-push c.loop-tile.tiles.items c.in_ok-given.given ∙ ap (λ n. n + 1) c.loop-tile.invariant.size;
      room = c.behind-room.ensures ∙ ap (λ r. room_after r c.in_ok-given.given) c.loop-tile.invariant.room ∙ room_push c.loop-tile.tiles.items c.in_ok-given.given ∙ ap room_behind (sym c.in_ok-push.ensures.items);
    }
