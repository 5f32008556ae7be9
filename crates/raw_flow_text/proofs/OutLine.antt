-- A line that wants the value of a name.
use Rattle.std.proofs.Common.{◌≡◌, ℕ, Bool, true, false, ◌&&◌, cond, List, Option, Some, None, refl, ap, ◌∙◌}
use Rattle.std.specs.Option.{is_none}
use Rattle.raw_asm.specs.Names.{is_name}
use Rattle.raw_set_text.specs.Forms.{◌>>=◌}
use Rattle.raw_set_text.specs.declared.kind.SetKind.TheVariants.{Missing, BadLine}
use Rattle.raw_flow_text.specs.Statement.{Statement}
use Rattle.raw_flow_text.specs.Statement.Statement.{Out}
use Rattle.raw_flow_text.specs.Forms.{name_at, out_form, out_line, line_statement}
use Rattle.raw_flow_text.specs.Flows.{size_in}
use Rattle.raw_flow_text.specs.Faults.{statement_fault, form_fault, line_fault}

pub says : (name : List ℕ) → line_statement (out_line name) ≡ cond (is_name name) (Some (Out name)) None
unfolding line_statement out_form name_at
says name = by (is_name name) where
  by : (b : Bool) → (cond b (Some name) None >>= λ n. Some (Out n)) ≡ cond b (Some (Out name)) None
  by true = refl
  by false = refl

module _ (size : ℕ × ℕ) (said : List Statement) (name : List ℕ) where
  pub missing : is_none (size_in said) ≡ true → line_fault (Some size) said (out_line name) ≡ Some Missing
  unfolding line_fault
  missing e = ap (λ b. cond (b && true) (Some Missing) (form_fault (Some size) said (line_statement (out_line name)))) e

  there : is_none (size_in said) ≡ false → line_fault (Some size) said (out_line name) ≡ form_fault (Some size) said (line_statement (out_line name))
  unfolding line_fault
  there e = ap (λ b. cond (b && true) (Some Missing) (form_fault (Some size) said (line_statement (out_line name)))) e

  pub unnamed : is_none (size_in said) ≡ false → is_name name ≡ false → line_fault (Some size) said (out_line name) ≡ Some BadLine
  unnamed e n = there e ∙ ap (form_fault (Some size) said) (says name ∙ ap (λ b. cond b (Some (Out name)) None) n)

  pub named : is_none (size_in said) ≡ false → is_name name ≡ true → line_fault (Some size) said (out_line name) ≡ statement_fault said (Out name)
  named e n = there e ∙ ap (form_fault (Some size) said) (says name ∙ ap (λ b. cond b (Some (Out name)) None) n)
