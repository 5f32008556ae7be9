use Rattle.std.proofs.Common.{◌≡◌, ◌++◌, drop}
use Rattle.std.specs.List.{filter_map}
use Rattle.raw_grid.specs.Topology.{without_ports}
use Rattle.raw_grid.specs.Wires.{link, links_from, all_sides}
use Rattle.raw_grid.proofs.size.Size.push_links_from.Given as goal

abbrev pub invariant-loop-side : goal.invariant-loop-side
invariant-loop-side l =
    let grid = without_ports l.self.cols l.self.rows in
    l.wires.items ++ filter_map (link grid l.net l.tile) (drop l.side-index all_sides) ≡ l.initial.wires.items ++ links_from grid l.net l.tile
