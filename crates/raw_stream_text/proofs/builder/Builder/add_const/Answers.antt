use Rattle.std.proofs.Common.{◌∷◌, None, refl, ap, ◌∙◌}
use Rattle.std.specs.Option.{option_or}
use Rattle.raw_flow_text.specs.Statement.Statement.{Const as FlowConst}
use Rattle.raw_stream.specs.declared.row_node.RowNode.TheVariants as node
use Rattle.raw_stream_text.specs.Statement.Statement.{Flow}
use Rattle.raw_stream_text.specs.Faults.{statement_fault}
use Rattle.raw_stream_text.proofs.Standing.{told, refused, new_first, const_fault, node_added}
use Rattle.raw_stream_text.proofs.builder.Builder.add_const.Goals as goal

pub returns-in_err-expect_new : goal.returns-in_err-expect_new
returns-in_err-expect_new c = λ claimed all is.
    refused c.args.self.now _ claimed all c.args.line c.from_residual.result c.in_err-expect_new.field-0.0 (Flow (FlowConst c.args.name.now c.args.word)) c.from_residual.ensures.1
    (λ said rest split stands.
    told c.in_err-expect_new.field-0.0 c.args.line _ None (statement_fault claimed all said (Flow (FlowConst c.args.name.now c.args.word)))
    (const_fault claimed all said c.args.name.now c.args.word ∙ new_first c.args.self.now c.args.named.now all said ((Flow (FlowConst c.args.name.now c.args.word)) ∷ rest) split is stands c.args.name.now None)
    (c.in_err-expect_new.ensures {u = tt}))

pub returns : goal.returns
returns c = λ claimed all is. record {
  fault = λ said rest split stands.
      const_fault claimed all said c.args.name.now c.args.word ∙ new_first c.args.self.now c.args.named.now all said ((Flow (FlowConst c.args.name.now c.args.word)) ∷ rest) split is stands c.args.name.now None
      ∙ ap (λ o. option_or o None) c.in_ok-expect_new.ensures;
  stands = λ said rest split stands. node_added c.args.self.now c.add_node.new.self all said (Flow (FlowConst c.args.name.now c.args.word)) stands (node.Const c.args.word) c.in_ok-add_node.ensures refl refl refl refl refl;
}
