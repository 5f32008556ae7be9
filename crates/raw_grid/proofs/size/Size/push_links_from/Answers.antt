use Rattle.std.proofs.Common.{ap, ◌∙◌, ◌++◌}
use Rattle.std.specs.Option.{option_to_list}
use Rattle.raw_grid.specs.declared.parts.Side.TheVariants.{N}
use Rattle.raw_grid.specs.Topology.{without_ports}
use Rattle.raw_grid.specs.Wires.{link, all_sides}
use Rattle.raw_grid.proofs.Ranges.{filter_map_more}
use Rattle.raw_grid.proofs.size.Size.push_links_from.Goals as goal

pub loop-side-preserved : goal.loop-side-preserved
loop-side-preserved c =
    let f = link (without_ports c.args.self.cols c.args.self.rows) c.args.net c.args.tile in
    filter_map_more f all_sides N c.loop-side.wires.items _ _ c.loop-side.side-index c.loop-side-test.true (c.in_ok-push_if_some.ensures ∙ ap (λ o. c.loop-side.wires.items ++ option_to_list o) c.link.ensures) c.loop-side.invariant
