use Rattle.std.proofs.Common.{◌≡◌, ◌+◌, length, None, sym, ap, ◌∙◌, subst}
use Rattle.raw_set_text.specs.Texts.{token_lines}
use Rattle.raw_stream_text.specs.Streams.{FedStream}
use Rattle.raw_stream_text.specs.Texts.{StreamMeaning}
use Rattle.raw_stream_text.specs.Meaning.{IsMeaning, IsCause}
use Rattle.raw_inputs.specs.declared.form.InputForm.TheVariants as form
use Rattle.raw_inputs.specs.Flaws.{Failure}
use Rattle.raw_inputs.specs.Inputs.{IsRefusalOf}
use Rattle.raw_proof_commands.proofs.Scheduling.{stream_cause, stream_too_long}
use Rattle.raw_proof_commands.proofs.scheduled.set_for_stream.Goals as goal

pub returns-in-Err-clause-cause : goal.returns-in-Err-clause-cause
returns-in-Err-clause-cause c = λ input plain same is_rows.
    c.refused_flow.ensures input plain (stream_cause input is_rows c.in-Err.refusal (subst (λ lines. IsCause None 0 lines c.in-Err.refusal) same c.in-Err.ensures.cause))

pub returns-in-Ok-None-clause-cause : goal.returns-in-Ok-None-clause-cause
returns-in-Ok-None-clause-cause c = λ input plain same is_rows.
    let fed : FedStream = c.in-Ok.read in
    let meaning : StreamMeaning input fed = record { plain = plain; meaning = subst (λ lines. IsMeaning None lines fed) same c.in-Ok.ensures.meaning } in
    let last : c.line_count.result + 1 ≡ length (token_lines input) + 1 = ap (λ n. n + 1) (c.line_count.ensures.count ∙ ap length same) in
    subst (λ (failure : Failure). IsRefusalOf form.Flow input failure) (sym c.refused_at.ensures)
    (stream_too_long input plain (c.line_count.result + 1) last is_rows fed meaning (c.in-Ok-None.ensures.none c.in-Ok-None.field-0-is))
