use Rattle.std.proofs.Common.{refl, sym, ap, ◌∙◌}
use Rattle.std.specs.Option.{is_some}
use Rattle.raw_set_text.specs.declared.kind.SetKind.TheVariants.{Repeated, OverLimit}
use Rattle.raw_stream_text.specs.Statement.Statement.{Rows}
use Rattle.raw_stream_text.proofs.Standing.{says, rows_fault, rows_added}
use Rattle.raw_stream_text.proofs.builder.Builder.add_rows.Goals as goal

pub returns-then-is_some : goal.returns-then-is_some
returns-then-is_some c = λ claimed all.
    says c.args.self.now _ claimed all c.args.line _ (Rows c.args.count) Repeated c.at.ensures
    (λ said rest split stands. rows_fault claimed all said c.args.count ∙ rw (ap is_some (sym stands.count) ∙ sym c.is_some.ensures ∙ c.if-is_some.true) refl)

pub returns-then-not-is_count : goal.returns-then-not-is_count
returns-then-not-is_count c = λ claimed all.
    says c.args.self.now _ claimed all c.args.line _ (Rows c.args.count) OverLimit c.at-then-not-is_count.ensures
    (λ said rest split stands. rows_fault claimed all said c.args.count ∙ rw ((ap is_some (sym stands.count) ∙ sym c.is_some.ensures ∙ c.if-is_some.false), sym c.is_count.ensures ∙ c.if-not-is_count.true) refl)

pub returns : goal.returns
returns c = λ claimed all. record {
  fault = λ said rest split stands. rows_fault claimed all said c.args.count ∙ rw ((ap is_some (sym stands.count) ∙ sym c.is_some.ensures ∙ c.if-is_some.false), sym c.is_count.ensures ∙ c.if-not-is_count.false) refl;
  stands = λ said rest split stands. rows_added c.args.self.now _ all said (Rows c.args.count) stands c.args.count (ap is_some (sym stands.count) ∙ sym c.is_some.ensures ∙ c.if-is_some.false) refl refl refl refl refl refl refl refl refl refl;
}
