use Rattle.std.proofs.Common.{◌≡◌, ◌∷◌, None, true, false, not, ◌&&◌, refl, sym, ap, ◌∙◌}
use Rattle.std.specs.Option.{option_or, is_some}
use Rattle.raw_asm.specs.declared.kind.AsmKind.TheVariants.{UnknownName}
use Rattle.raw_set_text.specs.declared.kind.SetKind.TheVariants.{Asm}
use Rattle.raw_set_text.specs.Faults.{fault_if}
use Rattle.raw_flow_text.specs.Statement.Statement.{Apply as FlowApply}
use Rattle.raw_stream.specs.declared.row_node.RowNode.TheVariants as node
use Rattle.raw_stream_text.specs.Statement.Statement.{Flow}
use Rattle.raw_stream_text.specs.Faults.{has_name, statement_fault}
use Rattle.raw_stream_text.proofs.Standing.{known, numbered, told, refused, says, new_first, apply_fault, node_added}
use Rattle.raw_stream_text.proofs.builder.Builder.add_apply.Goals as goal

pub returns-in_err-expect_new : goal.returns-in_err-expect_new
returns-in_err-expect_new c = λ claimed all is.
    refused c.args.self.now _ claimed all c.args.line c.from_residual.result c.in_err-expect_new.field-0.0 (Flow (FlowApply c.args.name.now c.args.op c.args.a.now c.args.b.now)) c.from_residual.ensures.1
    (λ said rest split stands.
    told c.in_err-expect_new.field-0.0 c.args.line _ (fault_if (not (has_name said c.args.a.now && has_name said c.args.b.now)) (Asm UnknownName) None) (statement_fault claimed all said (Flow (FlowApply c.args.name.now c.args.op c.args.a.now c.args.b.now)))
    (apply_fault claimed all said c.args.name.now c.args.op c.args.a.now c.args.b.now ∙ new_first c.args.self.now c.args.named.now all said ((Flow (FlowApply c.args.name.now c.args.op c.args.a.now c.args.b.now)) ∷ rest) split is stands c.args.name.now (fault_if (not (has_name said c.args.a.now && has_name said c.args.b.now)) (Asm UnknownName) None))
    (c.in_err-expect_new.ensures {u = tt}))

pub returns-in_default : goal.returns-in_default
returns-in_default c = λ claimed all is.
    says c.args.self.now _ claimed all c.args.line _ (Flow (FlowApply c.args.name.now c.args.op c.args.a.now c.args.b.now)) (Asm UnknownName) c.at.ensures
    (λ said rest split stands.
    let first : has_name said c.args.a.now ≡ false = known c.args.self.now c.args.named.now all said ((Flow (FlowApply c.args.name.now c.args.op c.args.a.now c.args.b.now)) ∷ rest) split is stands c.args.a.now c.number.result false c.number.ensures (ap is_some c.in_default.is) in
    apply_fault claimed all said c.args.name.now c.args.op c.args.a.now c.args.b.now ∙ new_first c.args.self.now c.args.named.now all said ((Flow (FlowApply c.args.name.now c.args.op c.args.a.now c.args.b.now)) ∷ rest) split is stands c.args.name.now (fault_if (not (has_name said c.args.a.now && has_name said c.args.b.now)) (Asm UnknownName) None)
    ∙ ap (λ o. option_or o (fault_if (not (has_name said c.args.a.now && has_name said c.args.b.now)) (Asm UnknownName) None)) c.in_ok-expect_new.ensures ∙ rw first refl)

pub returns-in_default-number : goal.returns-in_default-number
returns-in_default-number c = λ claimed all is.
    says c.args.self.now _ claimed all c.args.line _ (Flow (FlowApply c.args.name.now c.args.op c.args.a.now c.args.b.now)) (Asm UnknownName) c.at-in_default-number.ensures
    (λ said rest split stands.
    let first : has_name said c.args.a.now ≡ true = known c.args.self.now c.args.named.now all said ((Flow (FlowApply c.args.name.now c.args.op c.args.a.now c.args.b.now)) ∷ rest) split is stands c.args.a.now c.number.result true c.number.ensures (ap is_some c.in-Some.is) in
    let second : has_name said c.args.b.now ≡ false = known c.args.self.now c.args.named.now all said ((Flow (FlowApply c.args.name.now c.args.op c.args.a.now c.args.b.now)) ∷ rest) split is stands c.args.b.now c.number-2.result false c.number-2.ensures (ap is_some c.in_default-number.is) in
    apply_fault claimed all said c.args.name.now c.args.op c.args.a.now c.args.b.now ∙ new_first c.args.self.now c.args.named.now all said ((Flow (FlowApply c.args.name.now c.args.op c.args.a.now c.args.b.now)) ∷ rest) split is stands c.args.name.now (fault_if (not (has_name said c.args.a.now && has_name said c.args.b.now)) (Asm UnknownName) None)
    ∙ ap (λ o. option_or o (fault_if (not (has_name said c.args.a.now && has_name said c.args.b.now)) (Asm UnknownName) None)) c.in_ok-expect_new.ensures ∙ rw (first, second) refl)

pub returns : goal.returns
returns c = λ claimed all is. record {
  fault = λ said rest split stands.
      let first : has_name said c.args.a.now ≡ true = known c.args.self.now c.args.named.now all said ((Flow (FlowApply c.args.name.now c.args.op c.args.a.now c.args.b.now)) ∷ rest) split is stands c.args.a.now c.number.result true c.number.ensures (ap is_some c.in-Some.is) in
      let second : has_name said c.args.b.now ≡ true = known c.args.self.now c.args.named.now all said ((Flow (FlowApply c.args.name.now c.args.op c.args.a.now c.args.b.now)) ∷ rest) split is stands c.args.b.now c.number-2.result true c.number-2.ensures (ap is_some c.in-Some-number.is) in
      apply_fault claimed all said c.args.name.now c.args.op c.args.a.now c.args.b.now ∙ new_first c.args.self.now c.args.named.now all said ((Flow (FlowApply c.args.name.now c.args.op c.args.a.now c.args.b.now)) ∷ rest) split is stands c.args.name.now (fault_if (not (has_name said c.args.a.now && has_name said c.args.b.now)) (Asm UnknownName) None)
      ∙ ap (λ o. option_or o (fault_if (not (has_name said c.args.a.now && has_name said c.args.b.now)) (Asm UnknownName) None)) c.in_ok-expect_new.ensures ∙ rw (first, second) refl;
  stands = λ said rest split stands.
      let a = numbered c.args.self.now c.args.named.now all said ((Flow (FlowApply c.args.name.now c.args.op c.args.a.now c.args.b.now)) ∷ rest) split is stands c.args.a.now c.in-Some.a (sym c.number.ensures ∙ c.in-Some.is) in
      let b = numbered c.args.self.now c.args.named.now all said ((Flow (FlowApply c.args.name.now c.args.op c.args.a.now c.args.b.now)) ∷ rest) split is stands c.args.b.now c.in-Some-number.b (sym c.number-2.ensures ∙ c.in-Some-number.is) in
      node_added c.args.self.now c.add_node.new.self all said (Flow (FlowApply c.args.name.now c.args.op c.args.a.now c.args.b.now)) stands (node.Apply c.args.op c.in-Some.a c.in-Some-number.b) c.in_ok-add_node.ensures (rw (a, b) refl) refl refl refl refl;
}
