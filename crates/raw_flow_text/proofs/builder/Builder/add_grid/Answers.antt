use Rattle.std.proofs.Common.{refl, sym, ap, ◌∙◌, Some}
use Rattle.std.specs.Option.{is_some}
use Rattle.raw_flow_text.proofs.Standing.{grid_bad, grid_good, grid_added}
use Rattle.raw_flow_text.proofs.builder.Builder.add_grid.Goals as goal

pub returns-in_default : goal.returns-in_default
returns-in_default c = rw c.at.ensures (record {
  fault = λ said stands. (refl, grid_bad said c.args.columns c.args.rows (sym c.size_of.ensures ∙ c.in_default.is));
  stands = λ said stands. tt;
})

pub returns-then-is_some : goal.returns-then-is_some
returns-then-is_some c = rw c.at-then-is_some.ensures (record {
  fault = λ said stands. (
    refl,
    (grid_good said c.args.columns c.args.rows c.in-Some.size (sym c.size_of.ensures ∙ c.in-Some.is)).0
        ∙ rw (ap is_some (sym stands.size) ∙ sym c.is_some.ensures ∙ c.if-is_some.true) refl,
  );
  stands = λ said stands. tt;
})

pub returns : goal.returns
returns c = record {
  fault = λ said stands.
      (grid_good said c.args.columns c.args.rows c.in-Some.size (sym c.size_of.ensures ∙ c.in-Some.is)).0
      ∙ rw (ap is_some (sym stands.size) ∙ sym c.is_some.ensures ∙ c.if-is_some.false) refl;
  stands = λ said stands.
      grid_added c.args.self.now _ said c.args.columns c.args.rows stands (ap is_some (sym stands.size) ∙ sym c.is_some.ensures ∙ c.if-is_some.false)
      (ap Some (grid_good said c.args.columns c.args.rows c.in-Some.size (sym c.size_of.ensures ∙ c.in-Some.is)).1) refl refl refl refl;
}
