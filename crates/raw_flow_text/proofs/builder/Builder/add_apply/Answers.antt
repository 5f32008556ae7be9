use Rattle.std.proofs.Common.{◌≡◌, true, false, Some, refl, sym, ap, ◌∙◌, append-nil}
use Rattle.std.specs.Option.{is_some}
use Rattle.raw_set_text.specs.declared.kind.SetKind.TheVariants.{Repeated}
use Rattle.raw_flow.specs.declared.node.Node.TheVariants as node
use Rattle.raw_flow_text.specs.Statement.Statement.{Apply}
use Rattle.raw_flow_text.specs.Flows.{names_in, node_of}
use Rattle.raw_flow_text.specs.Faults.{has_name}
use Rattle.raw_flow_text.proofs.Standing.{has_is, has_not, has_found, number_is, refused, apply_fault, defined}
use Rattle.raw_flow_text.proofs.builder.Builder.add_apply.Goals as goal

pub returns-in_err-expect_new : goal.returns-in_err-expect_new
returns-in_err-expect_new c =
    let told = (c.in_err-expect_new.ensures {u = tt}).defined in
    refused c.args.self.now _ c.args.line c.from_residual.result c.in_err-expect_new.field-0.0 Repeated (Apply c.args.name.now c.args.op c.args.a.now c.args.b.now) c.from_residual.ensures.1 told.0
    (λ said stands. apply_fault said c.args.name.now c.args.op c.args.a.now c.args.b.now true (has_found c.args.self.now said c.args.name.now stands told.1))

pub returns-in_default : goal.returns-in_default
returns-in_default c = rw c.at.ensures (record {
  fault = λ said stands. (
    refl,
    let fresh = has_not c.args.self.now said c.args.name.now stands c.in_ok-expect_new.ensures.new in
        let first : has_name said c.args.a.now ≡ false = has_is c.args.self.now said c.args.a.now c.number.result false stands c.number.ensures (ap is_some c.in_default.is) in
        apply_fault said c.args.name.now c.args.op c.args.a.now c.args.b.now false fresh ∙ rw first refl,
  );
  stands = λ said stands. tt;
})

pub returns-in_default-number : goal.returns-in_default-number
returns-in_default-number c = rw c.at-in_default-number.ensures (record {
  fault = λ said stands. (
    refl,
    let fresh = has_not c.args.self.now said c.args.name.now stands c.in_ok-expect_new.ensures.new in
        let first : has_name said c.args.a.now ≡ true = has_is c.args.self.now said c.args.a.now c.number.result true stands c.number.ensures (ap is_some c.in-Some.is) in
        let second : has_name said c.args.b.now ≡ false = has_is c.args.self.now said c.args.b.now c.number-2.result false stands c.number-2.ensures (ap is_some c.in_default-number.is) in
        apply_fault said c.args.name.now c.args.op c.args.a.now c.args.b.now false fresh ∙ rw (first, second) refl,
  );
  stands = λ said stands. tt;
})

pub returns : goal.returns
returns c = record {
  fault = λ said stands.
      let fresh = has_not c.args.self.now said c.args.name.now stands c.in_ok-expect_new.ensures.new in
      let first : has_name said c.args.a.now ≡ true = has_is c.args.self.now said c.args.a.now c.number.result true stands c.number.ensures (ap is_some c.in-Some.is) in
      let second : has_name said c.args.b.now ≡ true = has_is c.args.self.now said c.args.b.now c.number-2.result true stands c.number-2.ensures (ap is_some c.in-Some-number.is) in
      apply_fault said c.args.name.now c.args.op c.args.a.now c.args.b.now false fresh ∙ rw (first, second) refl;
  stands = λ said stands.
      let a = number_is c.args.self.now said c.args.a.now c.in-Some.a stands (sym c.number.ensures ∙ c.in-Some.is) in
      let b = number_is c.args.self.now said c.args.b.now c.in-Some-number.b stands (sym c.number-2.ensures ∙ c.in-Some-number.is) in
      let last : node_of (names_in said) (Apply c.args.name.now c.args.op c.args.a.now c.args.b.now) ≡ Some (node.Apply c.args.op c.in-Some.a c.in-Some-number.b) = rw (a, b) refl in
      defined c.args.self.now c.define.new.self c.define.new.self said (Apply c.args.name.now c.args.op c.args.a.now c.args.b.now) c.args.name.now (node.Apply c.args.op c.in-Some.a c.in-Some-number.b)
      stands refl refl last refl c.in_ok-define.ensures refl refl refl refl (sym (append-nil c.define.new.self.inputs.items));
}
