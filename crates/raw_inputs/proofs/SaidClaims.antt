-- An input with a claim, a flow or a stream, means one set, or has one fault.
use Rattle.std.proofs.Common.{◌≡◌, ℕ, Bool, true, false, List, Some, None, refl, sym, ap, ◌∙◌, subst}
use Rattle.raw_text.specs.declared.lines.TextRefusal.{TextRefusal}
use Rattle.raw_text.specs.Lines.{lines_of, first_fault}
use Rattle.raw_answer.specs.OneAnswer.{HasOneAnswer}
use Rattle.raw_answer.specs.Texts.{IsTextFault}
use Rattle.raw_answer.proofs.Texts.{text_fault, lines_fault}
use Rattle.raw_answer.proofs.Made.{seen_answer}
use Rattle.raw_model.specs.Program.{ProgramSet, IsSet}
use Rattle.raw_set_text.specs.declared.kind.SetKind.{SetKind}
use Rattle.raw_set_text.specs.declared.kind.SetKind.TheVariants.{NotAscii, LineTooLong}
use Rattle.raw_set_text.specs.Texts.{token_lines}
use Rattle.raw_flow.specs.Flows.{Dataflow}
use Rattle.raw_term.specs.declared.place.Place.{Place}
use Rattle.raw_claim_text.specs.Meaning as flow_text
use Rattle.raw_claim_text.specs.Texts as claim
use Rattle.raw_stream_text.specs.Streams.{FedStream}
use Rattle.raw_stream_text.specs.Meaning.{IsFed}
use Rattle.raw_row_claim_text.specs.Meaning.{has_rows}
use Rattle.raw_row_claim_text.specs.Meaning as row_text
use Rattle.raw_row_claim_text.specs.Texts as rows
use Rattle.raw_inputs.specs.declared.form.InputForm.TheVariants as form
use Rattle.raw_inputs.specs.Claimed.{says_rows, SaysClaimBy, IsClaimFaultBy, IsFlowClaim, IsRowClaim}
use Rattle.raw_inputs.specs.Inputs.{IsOneSet}
use Rattle.raw_inputs.proofs.Texts.{of_set}

-- ---- what is read
pub row_claim_so : (input : List ℕ) (lines : List (List (List ℕ))) (set : ProgramSet) (fed : FedStream) → first_fault 1 (lines_of input) ≡ None → lines ≡ token_lines input → (has_rows lines ≡ false → ⊥)
    → row_text.Says lines (set, fed) → IsFed (Some set.topo) fed → IsRowClaim input set fed
row_claim_so input lines set fed plain same rows meaning valid = record {
  kind = sym (ap has_rows same) ∙ by (has_rows lines) rows;
  meaning = record { plain = plain; meaning = subst (λ l. row_text.Says l (set, fed)) same meaning };
  valid = valid;
}
  where
    by : (b : Bool) → (b ≡ false → ⊥) → b ≡ true
    by true not = refl
    by false not = absurd (not refl)

pub flow_claim_so : (input : List ℕ) (lines : List (List (List ℕ))) (set : ProgramSet) (flow : Dataflow) (places : List Place) → first_fault 1 (lines_of input) ≡ None → lines ≡ token_lines input → has_rows lines ≡ false
    → flow_text.IsMeaning lines set flow places → IsFlowClaim input set flow places
flow_claim_so input lines set flow places plain same none meaning = record {
  kind = sym (ap has_rows same) ∙ none;
  meaning = (meaning.0, record { plain = plain; meaning = subst (λ l. flow_text.Says l (set, record { fed = record { flow = flow; inputs = meaning.0 }; places = places })) same meaning.1 });
}

-- ---- what is refused
fault_by : (b : Bool) (input : List ℕ) (line : ℕ) (kind : SetKind) → claim.ClaimFault input line kind → rows.RowFault input line kind → IsClaimFaultBy b input line kind
fault_by false input line kind flow stream = flow
fault_by true input line kind flow stream = stream

pub row_fault_so : (input : List ℕ) (line : ℕ) (kind : SetKind) → first_fault 1 (lines_of input) ≡ None → says_rows input ≡ true → row_text.IsFault (token_lines input) line kind → IsClaimFaultBy (says_rows input) input line kind
row_fault_so input line kind plain rows fault =
    subst (λ b. IsClaimFaultBy b input line kind) (sym rows) (lines_fault NotAscii LineTooLong row_text.IsFault input plain line kind fault)

pub flow_fault_so : (input : List ℕ) (line : ℕ) (kind : SetKind) → first_fault 1 (lines_of input) ≡ None → says_rows input ≡ false → flow_text.IsFault (token_lines input) line kind → IsClaimFaultBy (says_rows input) input line kind
flow_fault_so input line kind plain none fault =
    subst (λ b. IsClaimFaultBy b input line kind) (sym none) (lines_fault NotAscii LineTooLong flow_text.IsFault input plain line kind fault)

pub text_fault_so : (input : List ℕ) (line : ℕ) (kind : SetKind) (refusal : TextRefusal) → first_fault 1 (lines_of input) ≡ Some refusal → IsTextFault NotAscii LineTooLong refusal line kind → IsClaimFaultBy (says_rows input) input line kind
text_fault_so input line kind refusal is fault =
    fault_by (says_rows input) input line kind (text_fault NotAscii LineTooLong flow_text.IsFault input refusal is line kind fault)
    (text_fault NotAscii LineTooLong row_text.IsFault input refusal is line kind fault)

-- ---- one answer
claim_by : (b : Bool) (input : List ℕ) → claim.IsOneText input → rows.IsOneText input → HasOneAnswer (SaysClaimBy b input) (IsClaimFaultBy b input) IsSet
claim_by false input one stream =
    seen_answer one (λ said. said.0) (SaysClaimBy false input) IsSet (λ said m. (said.1.fed.flow, said.1.places, (said.1.fed.inputs, m)))
    (λ set says. ((set, record { fed = record { flow = says.0; inputs = says.2.0 }; places = says.1 }), says.2.1, refl)) (λ said valid. valid.0)
claim_by true input one stream =
    seen_answer stream (λ said. said.0) (SaysClaimBy true input) IsSet (λ said m. (said.1, m)) (λ set says. ((set, says.0), says.1, refl)) (λ said valid. valid.0)

pub of_claim : (input : List ℕ) → claim.IsOneText input → rows.IsOneText input → IsOneSet form.Claim input
of_claim input one stream = of_set (claim_by (says_rows input) input one stream)
