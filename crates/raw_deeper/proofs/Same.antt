-- A list of steps that is lawful at a depth is lawful at each greater one, and does the same.
use Rattle.std.proofs.Common.{◌≡◌, ℕ, ◌<◌, ◌≤◌, true, not, ◌&&◌, ltb, List, [], ◌∷◌, length, Option, Some, None, refl, sym, ap, ap₂, ◌∙◌, subst, arith}
use Rattle.std.specs.Prelude.{slice_get, ◌==◌}
use Rattle.std.specs.List.{flat_map, filter_map}
use Rattle.std.proofs.lemmas.Bool.{and_parts, and_from, lt-ltb, ltb-true}
use Rattle.raw_network.specs.Network.{Network, State, values_on, has_values, has_room, is_ready, is_enabled, step_from, step, event_from, event_of}
use Rattle.raw_network.specs.Runs.{IsLawful, end_of, events, events_of, sent_on, with_first}
use Rattle.raw_network.specs.Wired.{IsWired}
use Rattle.raw_network.proofs.Networks.{law_at_most_as_often}
use Rattle.raw_deeper.specs.Deeper.{with_depth, DoesTheSame, DoesTheSameDeeper, NoFewerSteps}

-- where there is room for few values there is room for more
more_room : (few many : ℕ) (ws : List ℕ) (wires : List (List ℕ)) → few ≤ many → has_room few ws wires ≡ true → has_room many ws wires ≡ true
more_room few many [] wires le room = refl
more_room few many (w ∷ ws) wires le room =
    let parts = and_parts (ltb (length (values_on wires w)) few) (has_room few ws wires) room in
    let below : length (values_on wires w) < few = ltb-true (length (values_on wires w)) few parts.0 in
    and_from (ltb (length (values_on wires w)) many) (has_room many ws wires)
    (lt-ltb (length (values_on wires w)) many (omega arith))
    (more_room few many ws wires le parts.1)

module _ {L : Type 0} (net : Network L) (d : ℕ) where
  ready_deeper : (p : ℕ) (o : Option L) (wires : List (List ℕ)) → net.depth ≤ d → is_ready net p o wires ≡ true
      → is_ready (with_depth net d) p o wires ≡ true
  ready_deeper p None wires le on = on
  ready_deeper p (Some l) wires le on =
      let a = and_parts (not (net.is_stopped p l)) (has_values (net.takes p l) wires && has_room net.depth (net.sends p l) wires) on in
      let b = and_parts (has_values (net.takes p l) wires) (has_room net.depth (net.sends p l) wires) a.1 in
      and_from (not (net.is_stopped p l)) (has_values (net.takes p l) wires && has_room d (net.sends p l) wires) a.0
      (and_from (has_values (net.takes p l) wires) (has_room d (net.sends p l) wires) b.0 (more_room net.depth d (net.sends p l) wires le b.1))

  -- one that may step may step with deeper wires,
  pub enabled_deeper : (s : State L) (p : ℕ) → net.depth ≤ d → is_enabled net s p ≡ true → is_enabled (with_depth net d) s p ≡ true
  enabled_deeper s p le on = ready_deeper p (slice_get s.locals p) s.wires le on

  step_from_same : (s : State L) (p : ℕ) (o : Option L) → step_from (with_depth net d) s p o ≡ step_from net s p o
  step_from_same s p None = refl
  step_from_same s p (Some l) = refl

  -- and a step does not ask how deep the wires are
  pub step_same : (s : State L) (p : ℕ) → step (with_depth net d) s p ≡ step net s p
  step_same s p = step_from_same s p (slice_get s.locals p)

  event_from_same : (wires : List (List ℕ)) (p : ℕ) (o : Option L) → event_from (with_depth net d) wires p o ≡ event_from net wires p o
  event_from_same wires p None = refl
  event_from_same wires p (Some l) = refl

  event_same : (s : State L) (p : ℕ) → event_of (with_depth net d) s p ≡ event_of net s p
  event_same s p = event_from_same s.wires p (slice_get s.locals p)

  pub end_same : (s : State L) (h : List ℕ) → end_of (with_depth net d) s h ≡ end_of net s h
  end_same s [] = refl
  end_same s (p ∷ ps) = ap (λ t. end_of (with_depth net d) t ps) (step_same s p) ∙ end_same (step net s p) ps

  events_same : (s : State L) (h : List ℕ) → events (with_depth net d) s h ≡ events net s h
  events_same s [] = refl
  events_same s (p ∷ ps) =
      ap₂ (λ e es. e ∷ es) (event_same s p) (ap (λ t. events (with_depth net d) t ps) (step_same s p) ∙ events_same (step net s p) ps)

  events_by_same : (s : State L) (h : List ℕ) (q : ℕ) → events_of (with_depth net d) s h q ≡ events_of net s h q
  events_by_same s [] q = refl
  events_by_same s (p ∷ ps) q =
      ap₂ (with_first (p == q)) (event_same s p) (ap (λ t. events_of (with_depth net d) t ps q) (step_same s p) ∙ events_by_same (step net s p) ps q)

  lawful_deeper : (s : State L) (h : List ℕ) → net.depth ≤ d → IsLawful net s h → IsLawful (with_depth net d) s h
  lawful_deeper s [] le lawful = tt
  lawful_deeper s (p ∷ ps) le lawful = (
    enabled_deeper s p le lawful.0,
    subst (λ t. IsLawful (with_depth net d) t ps) (sym (step_same s p)) (lawful_deeper (step net s p) ps le lawful.1),
  )

  pub same_deeper : (s : State L) (h : List ℕ) → net.depth ≤ d → IsLawful net s h → DoesTheSame net (with_depth net d) s h
  same_deeper s h le lawful =
      record {
        lawful = lawful_deeper s h le lawful;
        ends = end_same s h;
        did = events_same s h;
        did_by = events_by_same s h;
        passed_on = λ w. ap (flat_map (λ e. sent_on w e.sent)) (events_same s h);
        touched_by = λ p. ap (filter_map (λ e. e.touched)) (events_by_same s h p);
      }

  -- the wires lead where they led
  pub wired_deeper : (producer consumer : ℕ → ℕ) → IsWired net producer consumer → IsWired (with_depth net d) producer consumer
  wired_deeper producer consumer wired =
      record { apart = wired.apart; takes_own = wired.takes_own; sends_own = wired.sends_own; sent_own = wired.sent_own }

pub law_same : {L : Type 0} (net : Network L) → DoesTheSameDeeper net
law_same net d s h le lawful = same_deeper net d s h le lawful

pub law_no_fewer : {L : Type 0} (net : Network L) (producer consumer : ℕ → ℕ) → IsWired net producer consumer → NoFewerSteps net
law_no_fewer net producer consumer wired d s h g le lawful rest p =
    law_at_most_as_often (with_depth net d) producer consumer (wired_deeper net d producer consumer wired) s g h rest
    (same_deeper net d s h le lawful).lawful p
