-- What lines of a claim say with one more, and that they mean one thing or have one least fault.
use Rattle.std.proofs.Common.{◌≡◌, ℕ, ◌+◌, ◌<◌, Bool, true, false, cond, List, [], ◌∷◌, ◌++◌, length, get_or, map, take, Option, Some, None, Result, Ok, Err, refl, sym, ap, ap₂, ◌∙◌, subst, arith}
use Rattle.std.specs.Option.{option_or, option_to_list}
use Rattle.std.specs.List.{filter_map}
use Rattle.std.proofs.lemmas.Bool.{lt-ltb, le-ltb}
use Rattle.std.proofs.lemmas.Option.{none-some}
use Rattle.std.proofs.lemmas.List.{length-map, map-append, take-map, get_or-map, get_or_past, take_more}
use Rattle.std.proofs.Math.Seq.{take-length}
use Rattle.raw_answer.specs.Places.{AreFaultless}
use Rattle.raw_answer.proofs.Places.{one_answer}
use Rattle.raw_grid.specs.Topology.{Topology}
use Rattle.raw_set_text.specs.declared.kind.SetKind.{SetKind}
use Rattle.raw_flow_text.specs.Forms.{line_statement}
use Rattle.raw_flow_text.specs.Flows.{IsFed}
use Rattle.raw_flow_text.specs.Faults as flow_line
use Rattle.raw_flow_text.specs.Meaning as flow
use Rattle.raw_flow_text.proofs.Next.{filter_next}
use Rattle.raw_term.specs.declared.place.Place.{Place}
use Rattle.raw_claim_text.specs.Forms.{plain_line}
use Rattle.raw_claim_text.specs.Placing.{SaidPlaces, place_said, with_line, said_from, said_places, said_in, says_missing, line_fault}
use Rattle.raw_claim_text.specs.Lines.{size_of, fault_at, placed_in, IsOneClaim}

-- ---- one line more

pub said_in_next : (lines : List (List (List ℕ))) (line : List (List ℕ)) → said_in (lines ++ line ∷ []) ≡ said_in lines ++ option_to_list (line_statement (plain_line line))
said_in_next lines line =
    ap (filter_map line_statement) (map-append plain_line lines (line ∷ [])) ∙ filter_next line_statement (map plain_line lines) (plain_line line)

said_more : (topo : Topology) (said : SaidPlaces) (lines : List (List (List ℕ))) (line : List (List ℕ)) → said_from topo said (lines ++ line ∷ []) ≡ with_line topo (said_from topo said lines) line
said_more topo said [] line = refl
said_more topo said (first ∷ lines) line = said_more topo (with_line topo said first) lines line

pub said_places_next : (topo : Topology) (lines : List (List (List ℕ))) (line : List (List ℕ)) → said_places topo (lines ++ line ∷ []) ≡ with_line topo (said_places topo lines) line
said_places_next topo lines line = said_more topo (record { plain = false; places = [] }) lines line

-- ---- faults

-- where a line has no fault it has none as a line of a flow
some_not : (b : Bool) (kind other : SetKind) → cond b (Some kind) (Some other) ≡ None → Some kind ≡ None
some_not true kind other e = e
some_not false kind other e = absurd (none-some other (sym e))

flow_free : (flow_fault : Option SetKind) (said : Result (Option Place) SetKind) → line_fault flow_fault said ≡ None → flow_fault ≡ None
flow_free None said e = refl
flow_free (Some kind) (Ok place) e = absurd (none-some kind (sym e))
flow_free (Some kind) (Err other) e = some_not (says_missing (Some kind)) kind other e

or_none : (o : Option SetKind) → option_or o None ≡ o
or_none None = refl
or_none (Some kind) = refl

module _ (topo : Topology) (lines : List (List (List ℕ))) where
  -- the lines as those of a flow
  abbrev plain : List (List (List ℕ))
  plain = map plain_line lines

  abbrev wanted : Option (ℕ × ℕ)
  wanted = Some (size_of topo)

  each : length plain ≡ length lines
  each = length-map lines plain_line

  flow_at : (k : ℕ) → k < length lines → flow.fault_at wanted plain k ≡ flow_line.line_fault wanted (said_in (take k lines)) (plain_line (get_or lines k []))
  unfolding flow.fault_at
  flow_at k lt =
      ap (λ b. cond b (flow_line.line_fault wanted (flow.said_before plain k) (get_or plain k [])) (flow_line.end_fault (flow.said_before plain k))) (lt-ltb k (length plain) (omega (arith, lt, each)))
      ∙ ap₂ (λ said line. flow_line.line_fault wanted said line) (ap (filter_map line_statement) (take-map plain_line k lines)) (get_or-map plain_line lines k [] [] lt)

  pub line_at : (k : ℕ) → k < length lines
      → fault_at topo lines k ≡ line_fault (flow_line.line_fault wanted (said_in (take k lines)) (plain_line (get_or lines k []))) (place_said topo (said_places topo (take k lines)) (get_or lines k []))
  unfolding fault_at
  line_at k lt = ap (λ f. line_fault f (place_said topo (said_places topo (take k lines)) (get_or lines k []))) (flow_at k lt)

  flow_end : flow.fault_at wanted plain (length lines) ≡ flow_line.end_fault (said_in lines)
  unfolding flow.fault_at
  flow_end =
      ap (λ b. cond b (flow_line.line_fault wanted (flow.said_before plain (length lines)) (get_or plain (length lines) [])) (flow_line.end_fault (flow.said_before plain (length lines)))) (le-ltb (length lines) (length plain) (omega (arith, each)))
      ∙ ap (λ (ls : List (List (List ℕ))). flow_line.end_fault (filter_map line_statement ls)) (ap (λ n. take n plain) (sym each) ∙ take-length plain)

  pub end_at : fault_at topo lines (length lines) ≡ flow_line.end_fault (said_in lines)
  unfolding fault_at
  end_at =
      ap₂ (λ f line. line_fault f (place_said topo (said_places topo (take (length lines) lines)) line)) flow_end (get_or_past lines (length lines) [] (omega arith))
      ∙ or_none (flow_line.end_fault (said_in lines))

  faultless_flow : (n : ℕ) → AreFaultless (fault_at topo lines) n → AreFaultless (flow.fault_at wanted plain) n
  unfolding fault_at
  faultless_flow n faultless = λ k below. flow_free (flow.fault_at wanted plain k) (place_said topo (said_places topo (take k lines)) (get_or lines k [])) (faultless k below)

  pub fed_is_lawful : (from : ℕ) → flow.IsOneFlow wanted from plain → AreFaultless (fault_at topo lines) (length lines + 1) → IsFed (placed_in topo lines).fed
  fed_is_lawful from answer faultless =
      answer.valid (flow.fed_in plain) (record { faultless = subst (λ n. AreFaultless (flow.fault_at wanted plain) (n + 1)) (sym each) (faultless_flow (length lines + 1) faultless); is = refl })

  -- the lines so far, with one more
  pub take_next : (k : ℕ) → k < length lines → take (k + 1) lines ≡ take k lines ++ get_or lines k [] ∷ []
  take_next k lt = take_more lines k [] lt

pub one_claim : (topo : Topology) (from : ℕ) (lines : List (List (List ℕ))) → flow.IsOneFlow (Some (size_of topo)) from (map plain_line lines) → IsOneClaim topo from lines
one_claim topo from lines answer = one_answer (fault_at topo lines) (length lines) from (placed_in topo lines) (λ claim. IsFed claim.fed) (fed_is_lawful topo lines from answer)
