use Rattle.std.proofs.Common.{◌≡◌, ◌++◌, ◌-◌}
use Rattle.std.specs.List.{flat_map, range_with_len}
use Rattle.raw_grid.specs.Topology.{without_ports}
use Rattle.raw_grid.specs.Wires.{links_from, links_of}
use Rattle.raw_grid.proofs.size.Size.push_links.Given as goal

abbrev pub invariant-loop-tile : goal.invariant-loop-tile
invariant-loop-tile l =
    let grid = without_ports l.self.cols l.self.rows in
    l.wires.items ++ flat_map (links_from grid l.net) (range_with_len l.tile (l.tile-end - l.tile)) ≡ l.initial.wires.items ++ links_of grid l.net
