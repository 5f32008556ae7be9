use Rattle.std.proofs.Common.{◌≡◌, Bool, true, false, not, List, Some, refl, sym, ap, ◌∙◌, subst}
use Rattle.std.specs.Prelude.{OnOk}
use Rattle.std.specs.Option.{is_none, option_to_list}
use Rattle.raw_flow_text.specs.Statement.{Statement}
use Rattle.raw_flow_text.specs.Building.{BuilderStands, Answers}
use Rattle.raw_flow_text.proofs.OutLine.{says, missing, unnamed, named}
use Rattle.raw_flow_text.proofs.builder.Builder.add_out_line.Goals as goal

twice : (b : Bool) → not (not b) ≡ b
twice true = refl
twice false = refl

pub returns-then-is_none-clause-fault : goal.returns-then-is_none-clause-fault
returns-then-is_none-clause-fault c =
    rw c.at.ensures (λ size said stands. (refl, missing size said c.args.name.now (ap is_none (sym stands.size) ∙ ap not c.is_none.ensures ∙ twice c.is_none.result ∙ c.if-is_none.true)))

pub returns-then-not-is_name-clause-fault : goal.returns-then-not-is_name-clause-fault
returns-then-not-is_name-clause-fault c =
    rw c.at-then-not-is_name.ensures (λ size said stands. (
      refl,
      unnamed size said c.args.name.now (ap is_none (sym stands.size) ∙ ap not c.is_none.ensures ∙ twice c.is_none.result ∙ c.if-is_none.false) (sym c.is_name.ensures ∙ c.if-not-is_name.true),
    ))

pub returns-clause-fault : goal.returns-clause-fault
returns-clause-fault c = λ size said stands.
    subst (Answers c.add_out.result c.args.number)
    (sym (named size said c.args.name.now (ap is_none (sym stands.size) ∙ ap not c.is_none.ensures ∙ twice c.is_none.result ∙ c.if-is_none.false) (sym c.is_name.ensures ∙ c.if-not-is_name.false)))
    (c.add_out.ensures.fault said stands)

pub returns-clause-stands : goal.returns-clause-stands
returns-clause-stands c = λ said stands.
    rw (says c.args.name.now, sym c.is_name.ensures, c.if-not-is_name.false) (c.add_out.ensures.stands said stands)
