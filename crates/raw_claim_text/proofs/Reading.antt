-- The lines that were read, and why one is refused.
use Rattle.std.proofs.Common.{◌≡◌, ℕ, ◌+◌, ◌<◌, List, [], ◌∷◌, ◌++◌, length, get_or, map, take, Option, Some, None, Err, sym, ap, ◌∙◌, subst, arith}
use Rattle.std.specs.List.{filter_map}
use Rattle.std.proofs.Math.Seq.{take-length}
use Rattle.raw_answer.specs.Places.{AreFaultless}
use Rattle.raw_answer.proofs.Places.{more_faultless}
use Rattle.raw_grid.specs.Topology.{Topology}
use Rattle.raw_set_text.specs.declared.kind.SetKind.{SetKind}
use Rattle.raw_set_text.specs.declared.kind.SetRefusal.{SetRefusal}
use Rattle.raw_flow_text.specs.Forms.{line_statement}
use Rattle.raw_flow_text.specs.Flows.{fed_by, IsFed}
use Rattle.raw_flow_text.specs.Faults as flow_line
use Rattle.raw_flow_text.specs.Meaning as flow
use Rattle.raw_flow_text.specs.Building.{Answers}
use Rattle.raw_flow_text.proofs.Causes.{refused_at}
use Rattle.raw_claim_text.specs.declared.builder.ClaimBuilder.{ClaimBuilder}
use Rattle.raw_claim_text.specs.Forms.{plain_line}
use Rattle.raw_claim_text.specs.Placing.{place_said, said_places, said_in, line_fault}
use Rattle.raw_claim_text.specs.Lines.{size_of, fault_at, PlacedFlow, placed_in, IsMeaning, IsCause}
use Rattle.raw_claim_text.specs.Building.{ClaimStands}
use Rattle.raw_claim_text.proofs.Lines.{line_at, end_at, fed_is_lawful, take_next}

module _ (topo : Topology) (from : ℕ) (lines : List (List (List ℕ))) where
  -- what is wrong with line k behind the first ones
  abbrev pub fault_behind : ℕ → Option SetKind
  fault_behind k =
      line_fault (flow_line.line_fault (Some (size_of topo)) (said_in (take k lines)) (plain_line (get_or lines k []))) (place_said topo (said_places topo (take k lines)) (get_or lines k []))

  pub line_passes : (k : ℕ) → k < length lines → AreFaultless (fault_at topo lines) k → fault_behind k ≡ None → AreFaultless (fault_at topo lines) (k + 1)
  line_passes k lt before none = more_faultless (fault_at topo lines) k before (line_at topo lines k lt ∙ none)

  pub stands_next : (builder : ClaimBuilder) (k : ℕ) → k < length lines → ClaimStands topo builder (take k lines ++ get_or lines k [] ∷ []) → ClaimStands topo builder (take (k + 1) lines)
  stands_next builder k lt stands = subst (ClaimStands topo builder) (sym (take_next topo lines k lt)) stands

  pub line_refused : (T : Type 0) (k number : ℕ) (refusal : SetRefusal) → number ≡ k + 1 + from → k < length lines → AreFaultless (fault_at topo lines) k → Answers {T = T} (Err refusal) number (fault_behind k) → IsCause topo from lines refusal
  line_refused T k number refusal is lt before answers =
      refused_at (fault_at topo lines) (length lines) T from k number refusal is (omega (arith, lt)) before (subst (Answers {T = T} (Err refusal) number) (sym (line_at topo lines k lt)) answers)

  pub end_refused : (T : Type 0) (number : ℕ) (refusal : SetRefusal) → number ≡ length lines + 1 + from → AreFaultless (fault_at topo lines) (length lines) → Answers {T = T} (Err refusal) number (flow_line.end_fault (said_in lines)) → IsCause topo from lines refusal
  end_refused T number refusal is before answers =
      refused_at (fault_at topo lines) (length lines) T from (length lines) number refusal is (omega arith) before (subst (Answers {T = T} (Err refusal) number) (sym (end_at topo lines)) answers)

  pub whole_faultless : AreFaultless (fault_at topo lines) (length lines) → flow_line.end_fault (said_in lines) ≡ None → AreFaultless (fault_at topo lines) (length lines + 1)
  whole_faultless before ended = more_faultless (fault_at topo lines) (length lines) before (end_at topo lines ∙ ended)

  -- the flow of all lines, said by their statements
  pub fed_whole : fed_by (said_in lines) ≡ (placed_in topo lines).fed
  fed_whole = ap (λ (ls : List (List (List ℕ))). fed_by (filter_map line_statement ls)) (sym (take-length (map plain_line lines)))

  pub ended_fed : flow.IsOneFlow (Some (size_of topo)) from (map plain_line lines) → AreFaultless (fault_at topo lines) (length lines) → flow_line.end_fault (said_in lines) ≡ None → IsFed (fed_by (said_in lines))
  ended_fed answer before ended = subst IsFed (sym fed_whole) (fed_is_lawful topo lines from answer (whole_faultless before ended))

  pub meant : (claim : PlacedFlow) → AreFaultless (fault_at topo lines) (length lines) → flow_line.end_fault (said_in lines) ≡ None → claim.fed ≡ fed_by (said_in lines) → claim.places ≡ (said_places topo lines).places
      → IsMeaning topo lines claim
  meant claim before ended fed places = record {
    faultless = whole_faultless before ended;
    is = λ i. record { fed = (fed ∙ fed_whole) i; places = places i };
  }
