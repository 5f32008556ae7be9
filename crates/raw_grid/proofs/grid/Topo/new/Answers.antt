use Rattle.std.proofs.Common.{◌∙◌, ◌++◌, ap, arith}
use Rattle.raw_grid.specs.declared.parts.Net.TheVariants.{One, Two}
use Rattle.raw_grid.specs.Topology.{without_ports}
use Rattle.raw_grid.specs.Wires.{all_tile_wires, links_of}
use Rattle.raw_grid.proofs.Growth.{stored_bare}
use Rattle.raw_grid.proofs.grid.Topo.new.Goals as goal

pub invariant_of-result : goal.invariant_of-result
invariant_of-result c =
    let size = c.in-Some.size in
    let grid = without_ports size.cols size.rows in
    let own = all_tile_wires grid in
    let one = links_of grid One in
    let two = links_of grid Two in
    stored_bare size.cols size.rows c.in_ok-places.places.items _ c.reserve.new.self.items _ size.valid c.in_ok-places.ensures.items c.in_ok-places.ensures.exact
    (c.in_ok-reserve.ensures.items ∙ c.in_ok-push_links-2.ensures ∙ ap (λ ws. ws ++ two) (c.in_ok-push_links.ensures ∙ ap (λ ws. ws ++ one) (c.in_ok-push_tile_wires.ensures ∙ ap (λ ws. ws ++ own) c.new-wires.ensures.items)))
    (omega (arith, c.in_ok-reserve.ensures.ok))
