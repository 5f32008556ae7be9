use Rattle.std.proofs.Common.{◌↔◌, ◌∙◌, ap, subst}
use Rattle.std.specs.Prelude.{IsSome, IsBitSet}
use Rattle.raw_grid.specs.Topology.{IsTopology, without_ports, switch_number, tile_number}
use Rattle.raw_grid.specs.Wires.{wires_of, input_wire, output_wire}
use Rattle.raw_grid.proofs.WireLaws.{inputs_are, outputs_are}
use Rattle.raw_grid.proofs.grid.Topo.ends_of.Goals as goal

pub returns-clause-inputs : goal.returns-clause-inputs
returns-clause-inputs c i =
    let t = c.args.self.now in
    let grid = without_ports c.self.inside.size.cols c.self.inside.size.rows in
    let same = c.deref.ensures.value ∙ c.self.invariant.wires_are ∙ ap wires_of c.self.view_is in
    let valid = subst IsTopology c.self.view_is c.self.invariant.valid in
    let switch = c.switch-switch.ensures ∙ ap (switch_number grid) c.tile.ensures ∙ ap (λ u. switch_number u (tile_number u c.args.x c.args.y)) c.self.view_is in
    subst (λ p. IsBitSet c.input_ends.result i ↔ IsSome (input_wire t p i)) switch
    (inputs_are t c.deref.result.now c.switch-switch.result c.input_ends.result valid same c.input_ends.ensures.below c.input_ends.ensures.above i)

pub returns-clause-outputs : goal.returns-clause-outputs
returns-clause-outputs c i =
    let t = c.args.self.now in
    let grid = without_ports c.self.inside.size.cols c.self.inside.size.rows in
    let same = c.deref-2.ensures.value ∙ c.self.invariant.wires_are ∙ ap wires_of c.self.view_is in
    let valid = subst IsTopology c.self.view_is c.self.invariant.valid in
    let switch = c.switch-switch.ensures ∙ ap (switch_number grid) c.tile.ensures ∙ ap (λ u. switch_number u (tile_number u c.args.x c.args.y)) c.self.view_is in
    subst (λ p. IsBitSet c.output_ends.result i ↔ IsSome (output_wire t p i)) switch
    (outputs_are t c.deref-2.result.now c.switch-switch.result c.output_ends.result valid same c.output_ends.ensures.below c.output_ends.ensures.above i)
