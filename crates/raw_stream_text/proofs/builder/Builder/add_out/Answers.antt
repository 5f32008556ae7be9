use Rattle.std.proofs.Common.{◌≡◌, ◌∷◌, Some, None, true, false, not, refl, sym, ap, ◌∙◌}
use Rattle.std.specs.Option.{option_map, option_or, is_some}
use Rattle.std.proofs.lemmas.Option.{none-some}
use Rattle.raw_asm.specs.declared.kind.AsmKind.TheVariants.{UnknownName}
use Rattle.raw_grid.specs.declared.parts.PortKind.TheVariants as kind
use Rattle.raw_set_text.specs.declared.kind.SetKind.TheVariants.{UndeclaredEdge, Asm}
use Rattle.raw_set_text.specs.Faults.{fault_if}
use Rattle.raw_stream_text.specs.Edges.{edge_number}
use Rattle.raw_stream_text.specs.Statement.Statement.{Out}
use Rattle.raw_stream_text.specs.Streams.{sinks_in}
use Rattle.raw_stream_text.specs.Faults.{has_name, statement_fault}
use Rattle.raw_stream_text.specs.Building.{seat_fault}
use Rattle.raw_stream_text.proofs.Standing.{known, numbered, told, refused, says, out_fault, out_added}
use Rattle.raw_stream_text.proofs.Sound.{sink_there}
use Rattle.raw_stream_text.proofs.builder.Builder.add_out.Goals as goal

pub returns-in_err-expect_seat : goal.returns-in_err-expect_seat
returns-in_err-expect_seat c = λ all is.
    refused c.args.self.now _ (option_map (λ topo. topo.now) c.args.claimed) all c.args.line c.from_residual.result c.in_err-expect_seat.field-0.0 (Out c.args.name.now c.args.edge) c.from_residual.ensures.1
    (λ said rest split stands.
    told c.in_err-expect_seat.field-0.0 c.args.line (seat_fault (option_map (λ topo. topo.now) c.args.claimed) c.args.self.now.size kind.Sink c.args.edge) (fault_if (not (has_name said c.args.name.now)) (Asm UnknownName) None) (statement_fault (option_map (λ topo. topo.now) c.args.claimed) all said (Out c.args.name.now c.args.edge))
    (out_fault (option_map (λ topo. topo.now) c.args.claimed) all said c.args.name.now c.args.edge ∙ ap (λ size. option_or (seat_fault (option_map (λ topo. topo.now) c.args.claimed) size kind.Sink c.args.edge) (fault_if (not (has_name said c.args.name.now)) (Asm UnknownName) None)) (sym stands.size))
    (c.in_err-expect_seat.ensures {u = tt}))

pub returns-in_default : goal.returns-in_default
returns-in_default c = λ all is.
    says c.args.self.now _ (option_map (λ topo. topo.now) c.args.claimed) all c.args.line _ (Out c.args.name.now c.args.edge) (Asm UnknownName) c.at.ensures
    (λ said rest split stands.
    let unknown : has_name said c.args.name.now ≡ false = known c.args.self.now c.args.named.now all said ((Out c.args.name.now c.args.edge) ∷ rest) split is stands c.args.name.now c.number.result false c.number.ensures (ap is_some c.in_default.is) in
    out_fault (option_map (λ topo. topo.now) c.args.claimed) all said c.args.name.now c.args.edge ∙ ap (λ size. option_or (seat_fault (option_map (λ topo. topo.now) c.args.claimed) size kind.Sink c.args.edge) (fault_if (not (has_name said c.args.name.now)) (Asm UnknownName) None)) (sym stands.size) ∙ ap (λ o. option_or o (fault_if (not (has_name said c.args.name.now)) (Asm UnknownName) None)) c.in_ok-expect_seat.ensures ∙ rw unknown refl)

pub returns-in_default-find : goal.returns-in_default-find
returns-in_default-find c = λ all is.
    says c.args.self.now _ (option_map (λ topo. topo.now) c.args.claimed) all c.args.line _ (Out c.args.name.now c.args.edge) UndeclaredEdge c.at-in_default-find.ensures
    (λ said rest split stands.
    let found = sink_there all said c.args.name.now c.args.edge (rest, split) in
    absurd (none-some found.0 (sym c.in_default-find.is ∙ c.find.ensures ∙ ap (λ edges. edge_number edges c.args.edge) is.sinks ∙ found.1)))

pub returns : goal.returns
returns c = λ all is. record {
  fault = λ said rest split stands.
      let there : has_name said c.args.name.now ≡ true = known c.args.self.now c.args.named.now all said ((Out c.args.name.now c.args.edge) ∷ rest) split is stands c.args.name.now c.number.result true c.number.ensures (ap is_some c.in-Some.is) in
      out_fault (option_map (λ topo. topo.now) c.args.claimed) all said c.args.name.now c.args.edge ∙ ap (λ size. option_or (seat_fault (option_map (λ topo. topo.now) c.args.claimed) size kind.Sink c.args.edge) (fault_if (not (has_name said c.args.name.now)) (Asm UnknownName) None)) (sym stands.size) ∙ ap (λ o. option_or o (fault_if (not (has_name said c.args.name.now)) (Asm UnknownName) None)) c.in_ok-expect_seat.ensures ∙ rw there refl;
  stands = λ said rest split stands.
      let number = numbered c.args.self.now c.args.named.now all said ((Out c.args.name.now c.args.edge) ∷ rest) split is stands c.args.name.now c.in-Some.node (sym c.number.ensures ∙ c.in-Some.is) in
      let port : edge_number (sinks_in all) c.args.edge ≡ Some c.in-Some-find.port = ap (λ edges. edge_number edges c.args.edge) (sym is.sinks) ∙ sym c.find.ensures ∙ c.in-Some-find.is in
      out_added c.args.self.now c.add_give.new.self all said (Out c.args.name.now c.args.edge) stands (record { port = c.in-Some-find.port; node = c.in-Some.node }) c.in_ok-add_give.ensures (rw (port, number) refl) refl refl refl refl;
}
