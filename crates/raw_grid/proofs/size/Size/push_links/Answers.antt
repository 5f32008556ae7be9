use Rattle.raw_grid.specs.Topology.{without_ports}
use Rattle.raw_grid.specs.Wires.{links_from}
use Rattle.raw_grid.proofs.Ranges.{flat_map_more}
use Rattle.raw_grid.proofs.size.Size.push_links.Goals as goal

pub loop-tile-preserved : goal.loop-tile-preserved
loop-tile-preserved c =
    flat_map_more (links_from (without_ports c.args.self.cols c.args.self.rows) c.args.net) c.loop-tile.wires.items _ _ c.loop-tile.tile c.tiles-tile-end.result c.loop-tile-test.true c.in_ok-push_links_from.ensures c.loop-tile.invariant
