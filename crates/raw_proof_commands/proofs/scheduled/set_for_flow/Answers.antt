use Rattle.std.proofs.Common.{◌≡◌, ◌+◌, length, None, sym, ap, ◌∙◌, subst}
use Rattle.raw_set_text.specs.Texts.{token_lines}
use Rattle.raw_flow_text.specs.Flows.{FedFlow}
use Rattle.raw_flow_text.specs.Texts.{FlowMeaning}
use Rattle.raw_flow_text.specs.Meaning.{IsMeaning, IsCause}
use Rattle.raw_choice.specs.Choice.{IsMade}
use Rattle.raw_inputs.specs.declared.form.InputForm.TheVariants as form
use Rattle.raw_inputs.specs.Flaws.{Failure}
use Rattle.raw_inputs.specs.Inputs.{IsRefusalOf}
use Rattle.raw_proof_commands.proofs.Scheduling.{flow_cause, flow_too_long}
use Rattle.raw_proof_commands.proofs.scheduled.set_for_flow.Goals as goal

pub returns-in-Err-clause-cause : goal.returns-in-Err-clause-cause
returns-in-Err-clause-cause c = λ input plain same is_flow.
    c.refused_flow.ensures input plain (flow_cause input is_flow c.in-Err.refusal (subst (λ lines. IsCause None 0 lines c.in-Err.refusal) same c.in-Err.ensures.cause))

pub returns-in-Ok-None-clause-cause : goal.returns-in-Ok-None-clause-cause
returns-in-Ok-None-clause-cause c = λ input plain same is_flow.
    let fed : FedFlow = c.in-Ok.read in
    let meaning : FlowMeaning input fed = record { plain = plain; meaning = subst (λ lines. IsMeaning None lines fed) same c.in-Ok.ensures.meaning } in
    let none : ¬ (IsMade c.read.inside.flow c.read.inside.inputs.items) =
    subst (λ inputs. ¬ (IsMade c.read.inside.flow inputs)) c.deref-2.ensures.value (c.in-Ok-None.ensures.none c.in-Ok-None.field-0-is) in
    let not_made : ¬ (IsMade fed.flow fed.inputs) = subst (λ (f : FedFlow). ¬ (IsMade f.flow f.inputs)) c.read.view_is none in
    let last : c.line_count.result + 1 ≡ length (token_lines input) + 1 = ap (λ n. n + 1) (c.line_count.ensures.count ∙ ap length same) in
    subst (λ (failure : Failure). IsRefusalOf form.Flow input failure) (sym c.refused_at.ensures)
    (flow_too_long input plain (c.line_count.result + 1) last is_flow fed meaning not_made)
