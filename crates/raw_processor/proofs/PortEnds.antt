-- The wires at the ends P of the two networks, as a set of ends.
use Rattle.std.proofs.Common.{◌≡◌, ℕ, List, [], ◌++◌, Option, None, refl, ap, ◌∙◌, arith, append-nil}
use Rattle.std.specs.Prelude.{slice_index_or}
use Rattle.std.specs.Option.{option_to_list}
use Rattle.raw_switch_isa.specs.Ends.{ends}
use Rattle.raw_grid.specs.Topology.{Topology}
use Rattle.raw_grid.specs.Wires.{input_wire, output_wire}
use Rattle.raw_model.specs.Machine.{port_inputs, port_outputs}
use Rattle.raw_processor.specs.declared.end_wires.EndWires.{EndWires}
use Rattle.raw_processor.specs.Ends.{AreEndsOf}
use Rattle.raw_processor.specs.Given.{wires_in}

module _ (wires : List (Option ℕ)) where
  pub at_both : wires_in 528 wires ≡ option_to_list (slice_index_or wires 4 None) ++ option_to_list (slice_index_or wires 9 None)
  unfolding ends
  at_both = ap (λ ws. option_to_list (slice_index_or wires 4 None) ++ ws) (append-nil (option_to_list (slice_index_or wires 9 None)))

  pub at_none : wires_in 0 wires ≡ []
  unfolding ends
  at_none = refl

module _ (topo : Topology) (p : ℕ) (es : EndWires) (are : AreEndsOf topo p es) where
  pub inputs_of_port : wires_in 528 es.inputs ≡ port_inputs topo p
  inputs_of_port =
      at_both es.inputs
      ∙ ap (λ o. option_to_list o ++ option_to_list (slice_index_or es.inputs 9 None)) (are.inputs 4 (omega arith))
      ∙ ap (λ o. option_to_list (input_wire topo p 4) ++ option_to_list o) (are.inputs 9 (omega arith))

  pub outputs_of_port : wires_in 528 es.outputs ≡ port_outputs topo p
  outputs_of_port =
      at_both es.outputs
      ∙ ap (λ o. option_to_list o ++ option_to_list (slice_index_or es.outputs 9 None)) (are.outputs 4 (omega arith))
      ∙ ap (λ o. option_to_list (output_wire topo p 4) ++ option_to_list o) (are.outputs 9 (omega arith))
