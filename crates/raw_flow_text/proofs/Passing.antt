-- The lines that were read, and why one is refused.
use Rattle.std.proofs.Common.{◌≡◌, ℕ, ◌+◌, ◌<◌, List, [], ◌++◌, length, get_or, Option, None, Result, Ok, Err, refl, sym, ◌∙◌, subst, arith}
use Rattle.std.specs.Prelude.{IfOk, IfErr}
use Rattle.std.specs.Result.{IsErrAnd}
use Rattle.std.specs.Option.{option_to_list}
use Rattle.std.proofs.lemmas.Bool.{lt-ltb, le-ltb}
use Rattle.raw_answer.specs.Places.{AreFaultless}
use Rattle.raw_answer.proofs.Places.{more_faultless}
use Rattle.raw_set_text.specs.declared.kind.SetRefusal.{SetRefusal}
use Rattle.raw_flow_text.specs.declared.builder.Builder.{Builder}
use Rattle.raw_flow_text.specs.Forms.{line_statement}
use Rattle.raw_flow_text.specs.Flows.{FedFlow, fed_by}
use Rattle.raw_flow_text.specs.Faults.{line_fault, end_fault}
use Rattle.raw_flow_text.specs.Meaning.{said_before, fault_at, fed_in, IsMeaning, IsCause}
use Rattle.raw_flow_text.specs.Building.{BuilderStands, Answers}
use Rattle.raw_flow_text.proofs.Next.{said_next}
use Rattle.raw_flow_text.proofs.Causes.{passed, refused_at}

module _ (wanted : Option (ℕ × ℕ)) (from : ℕ) (lines : List (List (List ℕ))) where
  at_line : (k : ℕ) → k < length lines → fault_at wanted lines k ≡ line_fault wanted (said_before lines k) (get_or lines k [])
  unfolding fault_at
  at_line k lt = rw (lt-ltb k (length lines) lt) refl

  at_end : fault_at wanted lines (length lines) ≡ end_fault (said_before lines (length lines))
  unfolding fault_at
  at_end = rw (le-ltb (length lines) (length lines) (omega arith)) refl

  -- one line more
  pub line_passes : (k : ℕ) → k < length lines → AreFaultless (fault_at wanted lines) k → line_fault wanted (said_before lines k) (get_or lines k []) ≡ None → AreFaultless (fault_at wanted lines) (k + 1)
  line_passes k lt before none = more_faultless (fault_at wanted lines) k before (at_line k lt ∙ none)

  pub stands_next : (builder : Builder) (k : ℕ) → k < length lines → BuilderStands builder (said_before lines k ++ option_to_list (line_statement (get_or lines k []))) → BuilderStands builder (said_before lines (k + 1))
  stands_next builder k lt stands = subst (BuilderStands builder) (sym (said_next lines k lt)) stands

  -- a line is refused
  pub line_refused : (T : Type 0) (k number : ℕ) (refusal : SetRefusal) → number ≡ k + 1 + from → k < length lines → AreFaultless (fault_at wanted lines) k → Answers {T = T} (Err refusal) number (line_fault wanted (said_before lines k) (get_or lines k [])) → IsCause wanted from lines refusal
  line_refused T k number refusal is lt before answers =
      refused_at (fault_at wanted lines) (length lines) T from k number refusal is (omega arith) before (subst (Answers {T = T} (Err refusal) number) (sym (at_line k lt)) answers)

  -- the end is refused, or the lines mean the flow
  pub end_refused : {T : Type 0} (result : Result T SetRefusal) (number : ℕ) → number ≡ length lines + 1 + from → AreFaultless (fault_at wanted lines) (length lines) → Answers result number (end_fault (said_before lines (length lines))) → IfErr result (IsCause wanted from lines)
  end_refused (Ok done) number is before answers = tt
  end_refused {T} (Err refusal) number is before answers =
      refused_at (fault_at wanted lines) (length lines) T from (length lines) number refusal is (omega arith) before (subst (Answers {T = T} (Err refusal) number) (sym at_end) answers)

  meant : AreFaultless (fault_at wanted lines) (length lines) → end_fault (said_before lines (length lines)) ≡ None → IsMeaning wanted lines (fed_in lines)
  meant before ended = record { faultless = more_faultless (fault_at wanted lines) (length lines) before (at_end ∙ ended); is = refl }

  -- the answer at the end
  pub end_meant : (result : Result FedFlow SetRefusal) (number : ℕ) → AreFaultless (fault_at wanted lines) (length lines) → Answers result number (end_fault (said_before lines (length lines)))
      → IfOk result (λ fed. fed ≡ fed_by (said_before lines (length lines))) → IfOk result (IsMeaning wanted lines)
  end_meant (Ok fed) number before answers is = subst (IsMeaning wanted lines) (sym is) (meant before answers)
  end_meant (Err refusal) number before answers is = tt

  -- a refusal that is passed on
  pub passed_on : {T : Type 0} (result : Result T SetRefusal) (refusal : SetRefusal) → IsErrAnd result (λ other. other ≡ refusal) → IsCause wanted from lines refusal → IfErr result (IsCause wanted from lines)
  passed_on result refusal is cause = passed (IsCause wanted from lines) result refusal is cause
