use Rattle.std.proofs.Common.{◌≡◌, ◌++◌, map, drop, false}
use Rattle.raw_grid.specs.Topology.{without_ports}
use Rattle.raw_route.specs.Refusals.{has_twice}
use Rattle.raw_plan_text.specs.Faults.{number_in}
use Rattle.raw_plan_text.proofs.tile.numbers.Given as goal

-- the numbers so far, of which none stands twice, and those from here on
abbrev pub invariant-loop-tile : goal.invariant-loop-tile
invariant-loop-tile l = record {
  whole : map (number_in (without_ports l.cols l.rows)) l.tiles ≡ l.numbers.items ++ map (number_in (without_ports l.cols l.rows)) (drop l.tile-index l.tiles);
  once : has_twice l.numbers.items ≡ false;
}
