-- Why an input is not scheduled.
use Rattle.std.proofs.Common.{◌≡◌, ℕ, ◌+◌, ◌<◌, ◌≤◌, Bool, true, false, List, length, None, refl, sym, ap, ◌∙◌, subst, inl, inr, ⊎_elim, arith}
use Rattle.std.proofs.lemmas.Bool.{cases_lt}
use Rattle.std.proofs.lemmas.List.{length-map}
use Rattle.raw_text.specs.Lines.{lines_of, first_fault, tokens_of}
use Rattle.raw_answer.proofs.Texts.{lines_fault}
use Rattle.raw_set_text.specs.declared.kind.SetRefusal.{SetRefusal}
use Rattle.raw_set_text.specs.declared.kind.SetRefusal.TheVariants.{At, Memory}
use Rattle.raw_set_text.specs.declared.kind.SetKind.{SetKind}
use Rattle.raw_set_text.specs.declared.kind.SetKind.TheVariants.{NotAscii, LineTooLong, OverLimit}
use Rattle.raw_set_text.specs.Texts.{token_lines}
use Rattle.raw_codegen.specs.Limits.{AreShort}
use Rattle.raw_flow.specs.declared.limits.TheConstants.{MAX_NODES}
use Rattle.raw_flow.specs.Compiled.{compiled}
use Rattle.raw_flow_text.specs.Flows.{FedFlow}
use Rattle.raw_flow_text.specs.Texts.{FlowMeaning}
use Rattle.raw_flow_text.specs.Meaning as flow
use Rattle.raw_stream.specs.Unrolled.{unrolled}
use Rattle.raw_stream_text.specs.Streams.{FedStream}
use Rattle.raw_stream_text.specs.Texts.{StreamMeaning}
use Rattle.raw_stream_text.specs.Meaning as stream
use Rattle.raw_either_flow.specs.Placed.{plain_flow, stream_flow}
use Rattle.raw_either_flow.specs.Texts.{MeansOf, FaultOf, CauseOf, IsFault, EitherFault}
use Rattle.raw_choice.specs.Choice.{IsMade}
use Rattle.raw_stream_choice.specs.Choice.{IsCompilable}
use Rattle.raw_inputs.specs.declared.flaw.LineKind.TheVariants.{Set}
use Rattle.raw_inputs.specs.declared.flaw.Refusal.TheVariants.{Line}
use Rattle.raw_inputs.specs.declared.form.InputForm.TheVariants as form
use Rattle.raw_inputs.specs.Inputs.{compiled_of, HasFault}
use Rattle.raw_owed.specs.Schedules.{is_stream_text}

as_compiled : (fed : FedFlow) → AreShort (compiled_of (plain_flow fed)).tiles → IsMade fed.flow fed.inputs
unfolding compiled
as_compiled fed short = short

-- why a text is not read
pub flow_cause : (input : List ℕ) → is_stream_text input ≡ false → (refusal : SetRefusal) → flow.IsCause None 0 (token_lines input) refusal
    → CauseOf (is_stream_text input) (token_lines input) refusal
flow_cause input is_flow refusal cause = subst (λ b. CauseOf b (token_lines input) refusal) (sym is_flow) cause

pub stream_cause : (input : List ℕ) → is_stream_text input ≡ true → (refusal : SetRefusal) → stream.IsCause None 0 (token_lines input) refusal
    → CauseOf (is_stream_text input) (token_lines input) refusal
stream_cause input is_rows (At line kind) cause = subst (λ b. CauseOf b (token_lines input) (At line kind)) (sym is_rows) (inl cause)
stream_cause input is_rows Memory cause = subst (λ b. CauseOf b (token_lines input) Memory) (sym is_rows) tt

-- the text of a flow or a stream without a fault as a text
module _ (input : List ℕ) (plain : first_fault 1 (lines_of input) ≡ None) where
  fault_of : (rows : Bool) → is_stream_text input ≡ rows → (line : ℕ) (kind : SetKind) → FaultOf rows (token_lines input) line kind → EitherFault input line kind
  fault_of rows is line kind cause =
      lines_fault NotAscii LineTooLong IsFault input plain line kind (subst (λ b. FaultOf b (token_lines input) line kind) (sym is) cause)

  -- where no set is made, and the line is the one after the last
  module _ (line : ℕ) (last : line ≡ length (token_lines input) + 1) where
    line_is : line ≡ length (lines_of input) + 1
    line_is = last ∙ ap (λ n. n + 1) (length-map (lines_of input) tokens_of)

    pub flow_too_long : is_stream_text input ≡ false → (fed : FedFlow) → FlowMeaning input fed → ¬ (IsMade fed.flow fed.inputs) → HasFault form.Flow input (Line line (Set OverLimit))
    flow_too_long is_flow fed meaning none =
        inr (record {
          meant = plain_flow fed;
          meaning = record { plain = plain; meaning = subst (λ b. MeansOf b (token_lines input) (plain_flow fed)) (sym is_flow) (fed, meaning.meaning, refl) };
          long = λ short. none (as_compiled fed short);
          line_is = line_is;
          kind_is = refl;
        })

    pub stream_too_long : is_stream_text input ≡ true → (fed : FedStream) → StreamMeaning input fed → ¬ (IsCompilable fed.stream fed.words)
        → HasFault form.Flow input (Line line (Set OverLimit))
    stream_too_long is_rows fed meaning none = ⊎_elim many few (cases_lt MAX_NODES (length (unrolled fed.stream).nodes)) where
      many : MAX_NODES < length (unrolled fed.stream).nodes → HasFault form.Flow input (Line line (Set OverLimit))
      many long =
          inl (fault_of true is_rows line OverLimit (inr (record { meant = fed; meaning = meaning.meaning; long = λ fits. omega (arith, long, fits); line_is = last; kind_is = refl })))

      few : length (unrolled fed.stream).nodes ≤ MAX_NODES → HasFault form.Flow input (Line line (Set OverLimit))
      few fits =
          inr (record {
            meant = stream_flow fed;
            meaning = record { plain = plain; meaning = subst (λ b. MeansOf b (token_lines input) (stream_flow fed)) (sym is_rows) (record { meant = fed; meaning = meaning.meaning; fits = fits; is = refl }) };
            long = λ short. none (record { few = fits; short = short });
            line_is = line_is;
            kind_is = refl;
          })
