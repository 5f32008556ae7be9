use Rattle.std.proofs.Common.{true, false, refl}
use Rattle.raw_set_text.specs.declared.kind.SetKind.TheVariants.{Repeated}
use Rattle.raw_flow.specs.declared.node.Node.TheVariants as node
use Rattle.raw_flow_text.specs.Statement.Statement.{Input}
use Rattle.raw_flow_text.proofs.Standing.{has_not, has_found, refused, input_fault, defined}
use Rattle.raw_flow_text.proofs.builder.Builder.add_input.Goals as goal

pub returns-in_err-expect_new : goal.returns-in_err-expect_new
returns-in_err-expect_new c =
    let told = (c.in_err-expect_new.ensures {u = tt}).defined in
    refused c.args.self.now _ c.args.line c.from_residual.result c.in_err-expect_new.field-0.0 Repeated (Input c.args.name.now c.args.word) c.from_residual.ensures.1 told.0
    (λ said stands. input_fault said c.args.name.now c.args.word true (has_found c.args.self.now said c.args.name.now stands told.1))

pub returns : goal.returns
returns c = record {
  fault = λ said stands. input_fault said c.args.name.now c.args.word false (has_not c.args.self.now said c.args.name.now stands c.in_ok-expect_new.ensures.new);
  stands = λ said stands.
      defined c.args.self.now c.define.new.self _ said (Input c.args.name.now c.args.word) c.args.name.now node.Input stands refl refl refl refl
      c.in_ok-define.ensures refl refl refl refl c.in_ok-add_word.ensures;
}
