use Rattle.std.proofs.Common.{◌≡◌, ◌∷◌, None, true, false, not, refl, sym, ap, ◌∙◌}
use Rattle.std.specs.Option.{option_or, is_some}
use Rattle.raw_asm.specs.declared.kind.AsmKind.TheVariants.{UnknownName}
use Rattle.raw_set_text.specs.declared.kind.SetKind.TheVariants.{Asm}
use Rattle.raw_set_text.specs.Faults.{fault_if}
use Rattle.raw_stream.specs.declared.row_node.RowNode.TheVariants as node
use Rattle.raw_stream_text.specs.Statement.Statement.{Pre}
use Rattle.raw_stream_text.specs.Faults.{has_name, statement_fault}
use Rattle.raw_stream_text.proofs.Standing.{named_has, named_number, told, refused, says, new_first, pre_fault, node_added}
use Rattle.raw_stream_text.proofs.builder.Builder.add_pre.Goals as goal

pub returns-in_err-expect_new : goal.returns-in_err-expect_new
returns-in_err-expect_new c = λ claimed all is.
    refused c.args.self.now _ claimed all c.args.line c.from_residual.result c.in_err-expect_new.field-0.0 (Pre c.args.name.now c.args.a.now c.args.word) c.from_residual.ensures.1
    (λ said rest split stands.
    told c.in_err-expect_new.field-0.0 c.args.line _ (fault_if (not (has_name all c.args.a.now)) (Asm UnknownName) None) (statement_fault claimed all said (Pre c.args.name.now c.args.a.now c.args.word))
    (pre_fault claimed all said c.args.name.now c.args.a.now c.args.word ∙ new_first c.args.self.now c.args.named.now all said ((Pre c.args.name.now c.args.a.now c.args.word) ∷ rest) split is stands c.args.name.now (fault_if (not (has_name all c.args.a.now)) (Asm UnknownName) None))
    (c.in_err-expect_new.ensures {u = tt}))

pub returns-in_default : goal.returns-in_default
returns-in_default c = λ claimed all is.
    says c.args.self.now _ claimed all c.args.line _ (Pre c.args.name.now c.args.a.now c.args.word) (Asm UnknownName) c.at.ensures
    (λ said rest split stands.
    let unknown : has_name all c.args.a.now ≡ false = named_has c.args.named.now all c.args.a.now c.number.result false is c.number.ensures (ap is_some c.in_default.is) in
    pre_fault claimed all said c.args.name.now c.args.a.now c.args.word
    ∙ new_first c.args.self.now c.args.named.now all said ((Pre c.args.name.now c.args.a.now c.args.word) ∷ rest) split is stands c.args.name.now (fault_if (not (has_name all c.args.a.now)) (Asm UnknownName) None)
    ∙ ap (λ o. option_or o (fault_if (not (has_name all c.args.a.now)) (Asm UnknownName) None)) c.in_ok-expect_new.ensures ∙ rw unknown refl)

pub returns : goal.returns
returns c = λ claimed all is. record {
  fault = λ said rest split stands.
      let known : has_name all c.args.a.now ≡ true = named_has c.args.named.now all c.args.a.now c.number.result true is c.number.ensures (ap is_some c.in-Some.is) in
      pre_fault claimed all said c.args.name.now c.args.a.now c.args.word
      ∙ new_first c.args.self.now c.args.named.now all said ((Pre c.args.name.now c.args.a.now c.args.word) ∷ rest) split is stands c.args.name.now (fault_if (not (has_name all c.args.a.now)) (Asm UnknownName) None)
      ∙ ap (λ o. option_or o (fault_if (not (has_name all c.args.a.now)) (Asm UnknownName) None)) c.in_ok-expect_new.ensures ∙ rw known refl;
  stands = λ said rest split stands.
      let number = named_number c.args.named.now all c.args.a.now c.in-Some.a is (sym c.number.ensures ∙ c.in-Some.is) in
      node_added c.args.self.now c.add_node.new.self all said (Pre c.args.name.now c.args.a.now c.args.word) stands (node.Pre c.in-Some.a c.args.word) c.in_ok-add_node.ensures (rw number refl) refl refl refl refl;
}
