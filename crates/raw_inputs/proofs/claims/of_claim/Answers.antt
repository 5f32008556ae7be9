use Rattle.std.proofs.Common.{sym, subst}
use Rattle.raw_set_text.specs.declared.kind.SetRefusal.{SetRefusal}
use Rattle.raw_set_text.specs.Texts.{token_lines}
use Rattle.raw_claim_text.specs.Meaning as flow_text
use Rattle.raw_row_claim_text.specs.Meaning as row_text
use Rattle.raw_inputs.specs.declared.form.InputForm.TheVariants as form
use Rattle.raw_inputs.specs.Flaws.{Failure}
use Rattle.raw_inputs.specs.Inputs.{IsRefusalOf}
use Rattle.raw_inputs.proofs.SaidClaims.{row_fault_so, flow_fault_so}
use Rattle.raw_inputs.proofs.claims.of_claim.Goals as goal

pub returns-in-At-clause-flow : goal.returns-in-At-clause-flow
returns-in-At-clause-flow c = λ bytes plain none cause.
    subst (λ (failure : Failure). IsRefusalOf form.Claim bytes failure) (sym c.refused_at.ensures)
    (flow_fault_so bytes c.in-At.line c.in-At.kind plain none (subst (λ (r : SetRefusal). flow_text.IsCause (token_lines bytes) r) c.in-At.is cause))

pub returns-in-At-clause-rows : goal.returns-in-At-clause-rows
returns-in-At-clause-rows c = λ bytes plain rows cause.
    subst (λ (failure : Failure). IsRefusalOf form.Claim bytes failure) (sym c.refused_at.ensures)
    (row_fault_so bytes c.in-At.line c.in-At.kind plain rows (subst (λ (r : SetRefusal). row_text.IsCause (token_lines bytes) r) c.in-At.is cause))
