use Rattle.std.proofs.Common.{ap, ◌∙◌, ◌++◌}
use Rattle.raw_grid.specs.Topology.{without_ports}
use Rattle.raw_grid.specs.Wires.{tile_wires}
use Rattle.raw_grid.proofs.Ranges.{flat_map_more}
use Rattle.raw_grid.proofs.size.Size.push_tile_wires.Goals as goal

pub loop-tile-preserved : goal.loop-tile-preserved
loop-tile-preserved c =
    flat_map_more (tile_wires (without_ports c.args.self.cols c.args.self.rows)) c.loop-tile.wires.items _ _ c.loop-tile.tile c.tiles-tile-end.result c.loop-tile-test.true (c.in_ok-extend_from_slice.ensures.items ∙ ap (λ xs. c.loop-tile.wires.items ++ xs) c.tile_wires.ensures) c.loop-tile.invariant
