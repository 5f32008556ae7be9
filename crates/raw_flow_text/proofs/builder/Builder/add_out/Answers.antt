use Rattle.std.proofs.Common.{refl, sym, ap, ◌∙◌}
use Rattle.std.specs.Option.{is_some}
use Rattle.raw_flow_text.proofs.Standing.{has_is, out_fault, out_added}
use Rattle.raw_flow_text.proofs.builder.Builder.add_out.Goals as goal

pub returns-in_default : goal.returns-in_default
returns-in_default c = rw c.at.ensures (record {
  fault = λ said stands. (
    refl,
    out_fault said c.args.name.now _ (has_is c.args.self.now said c.args.name.now c.number.result _ stands c.number.ensures (ap is_some c.in_default.is)),
  );
  stands = λ said stands. tt;
})

pub returns : goal.returns
returns c = record {
  fault = λ said stands.
      out_fault said c.args.name.now _ (has_is c.args.self.now said c.args.name.now c.number.result _ stands c.number.ensures (ap is_some c.in-Some.is));
  stands = λ said stands.
      out_added c.args.self.now _ said c.args.name.now c.in-Some.number stands (sym c.number.ensures ∙ c.in-Some.is) refl refl refl c.in_ok-add_word.ensures refl;
}
