use Rattle.std.proofs.Common.{◌≡◌, ◌-◌, ◌+◌, length}
use Rattle.raw_grid.specs.Topology.{tile_count}
use Rattle.raw_image.specs.Fields.{repeated}
use Rattle.raw_image.specs.Reading.{tile_at, tiles_at, room_behind}
use Rattle.raw_image.proofs.Loop.{listed}
use Rattle.raw_image.proofs.tiles.tiles_at.Given as goal

abbrev pub invariant-loop-tile : goal.invariant-loop-tile
invariant-loop-tile l = record {
  read : repeated (listed (λ before. tile_at l.version l.topo (tile_count l.topo + length before) (room_behind before))) (tile_count l.topo - l.tile) l.tiles.items l.rest ≡ tiles_at l.version l.topo l.bytes;
  size : length l.tiles.items ≡ l.tile;
  room : l.room ≡ room_behind l.tiles.items;
}
