use Rattle.std.proofs.Common.{◌≡◌, ◌∷◌, Some, None, refl, sym, ap, ◌∙◌}
use Rattle.std.specs.Option.{option_map, option_or}
use Rattle.std.proofs.lemmas.Option.{none-some}
use Rattle.raw_grid.specs.declared.parts.PortKind.TheVariants as kind
use Rattle.raw_set_text.specs.declared.kind.SetKind.TheVariants.{UndeclaredEdge, Repeated}
use Rattle.raw_set_text.specs.Faults.{fault_if}
use Rattle.raw_stream.specs.declared.row_node.RowNode.TheVariants as node
use Rattle.raw_stream_text.specs.Edges.{edge_number}
use Rattle.raw_stream_text.specs.Statement.Statement.{Input}
use Rattle.raw_stream_text.specs.Streams.{sources_in}
use Rattle.raw_stream_text.specs.Faults.{has_name, statement_fault}
use Rattle.raw_stream_text.specs.Building.{seat_fault}
use Rattle.raw_stream_text.proofs.Standing.{told, refused, says, new_first, input_fault, node_added}
use Rattle.raw_stream_text.proofs.Sound.{source_there}
use Rattle.raw_stream_text.proofs.builder.Builder.add_input.Goals as goal

pub returns-in_err-expect_seat : goal.returns-in_err-expect_seat
returns-in_err-expect_seat c = λ all is.
    refused c.args.self.now _ (option_map (λ topo. topo.now) c.args.claimed) all c.args.line c.from_residual.result c.in_err-expect_seat.field-0.0 (Input c.args.name.now c.args.edge) c.from_residual.ensures.1
    (λ said rest split stands.
    told c.in_err-expect_seat.field-0.0 c.args.line (seat_fault (option_map (λ topo. topo.now) c.args.claimed) c.args.self.now.size kind.Source c.args.edge) (fault_if (has_name said c.args.name.now) Repeated None) (statement_fault (option_map (λ topo. topo.now) c.args.claimed) all said (Input c.args.name.now c.args.edge))
    (input_fault (option_map (λ topo. topo.now) c.args.claimed) all said c.args.name.now c.args.edge ∙ ap (λ size. option_or (seat_fault (option_map (λ topo. topo.now) c.args.claimed) size kind.Source c.args.edge) (fault_if (has_name said c.args.name.now) Repeated None)) (sym stands.size))
    (c.in_err-expect_seat.ensures {u = tt}))

pub returns-in_err-expect_new : goal.returns-in_err-expect_new
returns-in_err-expect_new c = λ all is.
    refused c.args.self.now _ (option_map (λ topo. topo.now) c.args.claimed) all c.args.line c.from_residual-in_err-expect_new.result c.in_err-expect_new.field-0.0 (Input c.args.name.now c.args.edge) c.from_residual-in_err-expect_new.ensures.1
    (λ said rest split stands.
    told c.in_err-expect_new.field-0.0 c.args.line _ None (statement_fault (option_map (λ topo. topo.now) c.args.claimed) all said (Input c.args.name.now c.args.edge))
    (input_fault (option_map (λ topo. topo.now) c.args.claimed) all said c.args.name.now c.args.edge ∙ ap (λ size. option_or (seat_fault (option_map (λ topo. topo.now) c.args.claimed) size kind.Source c.args.edge) (fault_if (has_name said c.args.name.now) Repeated None)) (sym stands.size) ∙ ap (λ o. option_or o (fault_if (has_name said c.args.name.now) Repeated None)) c.in_ok-expect_seat.ensures ∙ new_first c.args.self.now c.args.named.now all said ((Input c.args.name.now c.args.edge) ∷ rest) split is stands c.args.name.now None)
    (c.in_err-expect_new.ensures {u = tt}))

pub returns-in_default : goal.returns-in_default
returns-in_default c = λ all is.
    says c.args.self.now _ (option_map (λ topo. topo.now) c.args.claimed) all c.args.line _ (Input c.args.name.now c.args.edge) UndeclaredEdge c.at.ensures
    (λ said rest split stands.
    let found = source_there all said c.args.name.now c.args.edge (rest, split) in
    absurd (none-some found.0 (sym c.in_default.is ∙ c.find.ensures ∙ ap (λ edges. edge_number edges c.args.edge) is.sources ∙ found.1)))

pub returns : goal.returns
returns c = λ all is. record {
  fault = λ said rest split stands. input_fault (option_map (λ topo. topo.now) c.args.claimed) all said c.args.name.now c.args.edge ∙ ap (λ size. option_or (seat_fault (option_map (λ topo. topo.now) c.args.claimed) size kind.Source c.args.edge) (fault_if (has_name said c.args.name.now) Repeated None)) (sym stands.size) ∙ ap (λ o. option_or o (fault_if (has_name said c.args.name.now) Repeated None)) c.in_ok-expect_seat.ensures ∙ new_first c.args.self.now c.args.named.now all said ((Input c.args.name.now c.args.edge) ∷ rest) split is stands c.args.name.now None ∙ ap (λ o. option_or o None) c.in_ok-expect_new.ensures;
  stands = λ said rest split stands.
      let port : edge_number (sources_in all) c.args.edge ≡ Some c.in-Some.port = ap (λ edges. edge_number edges c.args.edge) (sym is.sources) ∙ sym c.find.ensures ∙ c.in-Some.is in
      node_added c.args.self.now c.add_node.new.self all said (Input c.args.name.now c.args.edge) stands (node.Input c.in-Some.port) c.in_ok-add_node.ensures (rw port refl) refl refl refl refl;
}
