-- Waits are needs, and needs go on.
use Rattle.std.proofs.Common.{◌≡◌, ℕ, zero, suc, ◌+◌, ◌<◌, ◌≤◌, true, false, cond, not, List, [], ◌∷◌, ◌++◌, length, Option, Some, None, refl, sym, ap, ◌∙◌, subst, ◌⊎◌, ⊎_elim, arith}
use Rattle.std.specs.Prelude.{slice_get}
use Rattle.std.proofs.lemmas.Bool.{cases_Bool, cases_eq, cases_lt, eq-eqb, ne_eqb, false≢true, false_from_ne_true}
use Rattle.raw_network.specs.Network.{Network, State, values_on, count_of, is_enabled, step}
use Rattle.raw_network.specs.Runs.{IsLawful, end_of}
use Rattle.raw_network.specs.Wired.{IsWired}
use Rattle.raw_network.specs.Waits.{first_wait, wait_of, IsCovered}
use Rattle.raw_network.proofs.Wires.{count_here, count_there}
use Rattle.raw_network.proofs.Waits.{law_unmet, law_none_where_enabled}
use Rattle.raw_network.proofs.Diamond.{ready}
use Rattle.raw_network.proofs.Steps.{end_of-append}
use Rattle.raw_lockstep.specs.Lockstep.{all_enabled, cycles, after_cycles}
use Rattle.raw_lockstep.proofs.Cycling.{count-append, law_cycle_is_round, law_cycles_are_lawful, round_lawful}
use Rattle.raw_pace.proofs.Fuller.{on, fuller}
use Rattle.raw_pace.specs.Path.{TurnOf, Needs, NeedsGoOn, turn_after, far_end, WaitIsNeed, next_turn, far_or, before_of, way, WayIsChain, IsChain, IsForValues, WayIsDeepChain, IsNever, AreNever}
use Rattle.std.specs.Prelude.{IfSome}
use Rattle.raw_deeper.specs.Deeper.{with_depth}
use Rattle.raw_deeper.proofs.Same.{end_same, same_deeper, wired_deeper}
use Rattle.raw_pace.proofs.Path.{consumer_is, producer_is, needs_value, needs_room, has_enough, has_space, local_kept, same_local}

module _ {L : Type 0} (net : Network L) where
  -- the moment of a turn that was taken
  record Taken (s : State L) (h : List ℕ) (u : TurnOf) : Type 0 where
    pub front : List ℕ
    pub rest : List ℕ
    pub whole : front ++ rest ≡ h
    pub lawful : IsLawful net s front
    pub many : count_of u.p front ≡ u.before
    pub may : is_enabled net (end_of net s front) u.p ≡ true

  taken_before : (s : State L) (h : List ℕ) (p n : ℕ) → IsLawful net s h → n < count_of p h → Taken s h (record { p = p; before = n })
  taken_before s [] p n lawful some = absurd (omega (arith, some))
  taken_before s (q ∷ h) p n lawful some =
      ⊎_elim
      (λ (e : q ≡ p). same e n some (λ m less. taken_before (step net s q) h p m lawful.1 less))
      (λ (ne : q ≡ p → ⊥).
      let t = taken_before (step net s q) h p n lawful.1 (omega (arith, some, count_there p q h ne)) in
      record { front = q ∷ t.front; rest = t.rest; whole = ap (λ xs. q ∷ xs) t.whole; lawful = (lawful.0, t.lawful); many = count_there p q t.front ne ∙ t.many; may = t.may })
      (cases_eq q p)
    where
      same : q ≡ p → (n : ℕ) → n < count_of p (q ∷ h) → ((m : ℕ) → m < count_of p h → Taken (step net s q) h (record { p = p; before = m })) → Taken s (q ∷ h) (record { p = p; before = n })
      same e zero some rest =
          record { front = []; rest = q ∷ h; whole = refl; lawful = tt; many = refl; may = subst (λ x. is_enabled net s x ≡ true) e lawful.0 }
      same e (suc n) some rest =
          let here : count_of p (q ∷ h) ≡ suc (count_of p h) = subst (λ x. count_of x (q ∷ h) ≡ suc (count_of x h)) e (count_here q h) in
          let t = rest n (omega (arith, some, here)) in
          let here' : count_of p (q ∷ t.front) ≡ suc (count_of p t.front) = subst (λ x. count_of x (q ∷ t.front) ≡ suc (count_of x t.front)) e (count_here q t.front) in
          record { front = q ∷ t.front; rest = t.rest; whole = ap (λ xs. q ∷ xs) t.whole; lawful = (lawful.0, t.lawful); many = here' ∙ ap suc t.many; may = t.may }

  count_front : (p : ℕ) (xs ys : List ℕ) → count_of p xs ≤ count_of p (xs ++ ys)
  count_front p [] ys = omega arith
  count_front p (x ∷ xs) ys =
      ⊎_elim
      (λ (e : x ≡ p). subst (λ y. count_of p (y ∷ xs) ≤ count_of p (y ∷ (xs ++ ys))) (sym e) (omega (arith, count_here p xs, count_here p (xs ++ ys), count_front p xs ys)))
      (λ (ne : x ≡ p → ⊥). omega (arith, count_there p x xs ne, count_there p x (xs ++ ys) ne, count_front p xs ys))
      (cases_eq x p)

  pub law_needs_go_on : NeedsGoOn net
  law_needs_go_on s t u v first second h lawful many may =
      let was = taken_before s h u.p u.before lawful (first h lawful many may) in
      let early = second was.front was.lawful was.many was.may in
      omega (arith, early, count_front v.p was.front was.rest, ap (count_of v.p) was.whole)

module _ {L : Type 0} (net : Network L) (producer consumer : ℕ → ℕ) (inputs outputs : ℕ → List ℕ) (wired : IsWired net producer consumer) where
  there : (s : State L) (p w : ℕ) → first_wait net inputs outputs s p ≡ Some w → (l : L) × (slice_get s.locals p ≡ Some l)
  there s p w e = from (slice_get s.locals p) refl e
    where
      from : (o : Option L) → slice_get s.locals p ≡ o → wait_of net inputs outputs s.wires p o ≡ Some w → (l : L) × (slice_get s.locals p ≡ Some l)
      from None is e = absurd (cc e)
      from (Some l) is e = (l, is)

  pub law_wait_is_need : WaitIsNeed net producer consumer inputs outputs
  law_wait_is_need s h p w lawful waits =
      let (l, here) = there (end_of net s h) p w waits in
      ⊎_elim
      (λ (lack : (0 < count_of w (inputs p)) × (length (values_on (end_of net s h).wires w) < count_of w (net.takes p l))).
      let own : consumer w ≡ p = let few = lack.1 in consumer_is net producer consumer wired p w l (omega (arith, few)) in
      subst (λ b. Needs net s (turn_after h p) (turn_after h (cond b (producer w) (consumer w)))) (sym (eq-eqb (consumer w) p own))
      (needs_value net producer consumer wired s h p w l lawful here (record { few = lack.1 })))
      (λ (lack : (0 < count_of w (outputs p)) × (0 < count_of w (net.sends p l)) × (net.depth ≤ length (values_on (end_of net s h).wires w))).
      let own : producer w ≡ p = producer_is net producer consumer wired p w l lack.1 in
      let other : consumer w ≡ p → ⊥ = λ e. wired.apart w (own ∙ sym e) in
      subst (λ b. Needs net s (turn_after h p) (turn_after h (cond b (producer w) (consumer w)))) (sym (ne_eqb (consumer w) p other))
      (needs_room net producer consumer wired s h p w l lawful here (record { asks = lack.1; full = lack.2 })))
      (law_unmet net inputs outputs (end_of net s h) p l w here waits)

module _ {L : Type 0} (net : Network L) (producer consumer : ℕ → ℕ) (inputs outputs : ℕ → List ℕ) (wired : IsWired net producer consumer) (covered : IsCovered net inputs outputs) where
  module _ (s : State L) (k p : ℕ) (may : is_enabled net (after_cycles net s (suc k)) p ≡ true) where
    abbrev g : List ℕ
    g = cycles net s k

    abbrev t : State L
    t = after_cycles net s k

    abbrev round : List ℕ
    round = all_enabled net t

    of_g : IsLawful net s g
    of_g = law_cycles_are_lawful net producer consumer wired s k

    of_round : IsLawful net t round
    of_round = let is = (law_cycle_is_round net t).is_round in round_lawful net producer consumer wired t round is.once is.enabled

    may' : is_enabled net (end_of net t round) p ≡ true
    may' = subst (λ u. is_enabled net u p ≡ true) (end_of-append net s g round) may

    many : count_of p (g ++ round) ≡ count_of p g + count_of p round
    many = count-append p g round

    -- what the turn before is to be
    pub record IsBefore (q : ℕ) : Type 0 where
      pub goes : is_enabled net t q ≡ true
      pub needed : Needs net s (next_turn net s (suc k) p) (next_turn net s k q)

    itself : is_enabled net t p ≡ true → IsBefore p
    itself on =
        let one = (law_cycle_is_round net t).whole p on in
        record { goes = on; needed = λ h of_h is now. omega (arith, is, many, one) }

    module _ (off : is_enabled net t p ≡ false) where
      none : count_of p round ≡ 0
      none =
          ⊎_elim (λ (z : count_of p round ≡ 0). z)
          (λ (nz : count_of p round ≡ 0 → ⊥). absurd (false≢true (sym off ∙ (law_cycle_is_round net t).is_round.enabled p (omega arith))))
          (cases_eq (count_of p round) 0)

      turn : ◌≡◌ {A = TurnOf} (turn_after g p) (next_turn net s (suc k) p)
      turn =
          let same : count_of p g ≡ count_of p (g ++ round) = omega (arith, many, none) in
          ap (λ (n : ℕ). let u : TurnOf = record { p = p; before = n } in u) same

      waits : (l : L) → slice_get t.locals p ≡ Some l → (w : ℕ) → first_wait net inputs outputs t p ≡ Some w → IsBefore (far_end producer consumer p w)
      waits l here w e =
          record {
            goes =
                ⊎_elim
                (λ (lack : (0 < count_of w (inputs p)) × (length (values_on t.wires w) < count_of w (net.takes p l))).
                let few = lack.1 in
                let own : consumer w ≡ p = consumer_is net producer consumer wired p w l (omega (arith, few)) in
                subst (λ b. is_enabled net t (cond b (producer w) (consumer w)) ≡ true) (sym (eq-eqb (consumer w) p own)) (sender few))
                (λ (lack : (0 < count_of w (outputs p)) × (0 < count_of w (net.sends p l)) × (net.depth ≤ length (values_on t.wires w))).
                let own : producer w ≡ p = producer_is net producer consumer wired p w l lack.1 in
                let other : consumer w ≡ p → ⊥ = λ f. wired.apart w (own ∙ sym f) in
                subst (λ b. is_enabled net t (cond b (producer w) (consumer w)) ≡ true) (sym (ne_eqb (consumer w) p other)) (taker lack.1 lack.2))
                (law_unmet net inputs outputs t p l w here e);
            needed = subst (λ u. Needs net s u (next_turn net s k (far_end producer consumer p w))) turn (law_wait_is_need net producer consumer inputs outputs wired s g p w of_g e);
          }
        where
          later : slice_get (end_of net t round).locals p ≡ Some l
          later = local_kept net producer consumer wired t round p none ∙ here

          sender : on t w < count_of w (net.takes p l) → is_enabled net t (producer w) ≡ true
          sender few =
              ⊎_elim
              (λ (z : count_of (producer w) round ≡ 0).
              let least = fuller net producer consumer wired t w round [] of_round tt (omega (arith, z)) (omega arith) in
              let enough = has_enough net producer consumer wired (end_of net t round) p w l may' later in
              absurd (omega (arith, least, enough, few)))
              (λ (nz : count_of (producer w) round ≡ 0 → ⊥). (law_cycle_is_round net t).is_round.enabled (producer w) (omega arith))
              (cases_eq (count_of (producer w) round) 0)

          taker : 0 < count_of w (net.sends p l) → net.depth ≤ on t w → is_enabled net t (consumer w) ≡ true
          taker asks full =
              ⊎_elim
              (λ (z : count_of (consumer w) round ≡ 0).
              let least = fuller net producer consumer wired t w [] round tt of_round (omega arith) (omega (arith, z)) in
              let space = has_space net producer consumer wired (end_of net t round) p w l may' later asks in
              absurd (omega (arith, least, space, full)))
              (λ (nz : count_of (consumer w) round ≡ 0 → ⊥). (law_cycle_is_round net t).is_round.enabled (consumer w) (omega arith))
              (cases_eq (count_of (consumer w) round) 0)

      waited : (o : Option ℕ) → first_wait net inputs outputs t p ≡ o → IsBefore (far_or producer consumer p o)
      waited o e =
          let (l, r) = ready net (end_of net t round) p may' in
          let here : slice_get t.locals p ≡ Some l = sym (local_kept net producer consumer wired t round p none) ∙ r.here in
          by_wait l here r.going o e
        where
          by_wait : (l : L) → slice_get t.locals p ≡ Some l → not (net.is_stopped p l) ≡ true → (o : Option ℕ) → first_wait net inputs outputs t p ≡ o → IsBefore (far_or producer consumer p o)
          by_wait l here going (Some w) e = waits l here w e
          by_wait l here going None e =
              let goes_ : net.is_stopped p l ≡ false = false_from_ne_true (net.is_stopped p l) (λ on. false≢true (sym (ap not on) ∙ going)) in
              absurd (false≢true (sym off ∙ (law_none_where_enabled net inputs outputs covered t p l here goes_).0 e))

    pub is_before : IsBefore (before_of net producer consumer inputs outputs t p)
    is_before =
        ⊎_elim
        (λ (on : is_enabled net t p ≡ true).
        let (l, r) = ready net t p on in
        let goes_ : net.is_stopped p l ≡ false = false_from_ne_true (net.is_stopped p l) (λ e. false≢true (sym (ap not e) ∙ r.going)) in
        let no_wait : first_wait net inputs outputs t p ≡ None = (law_none_where_enabled net inputs outputs covered t p l r.here goes_).1 on in
        subst (λ o. IsBefore (far_or producer consumer p o)) (sym no_wait) (itself on))
        (λ (off : is_enabled net t p ≡ false). waited off (first_wait net inputs outputs t p) refl)
        (cases_Bool (is_enabled net t p))

  pub law_way_is_chain : WayIsChain net producer consumer inputs outputs
  law_way_is_chain s zero p may = (tt, refl)
  law_way_is_chain s (suc k) p may =
      let b = is_before s k p may in
      let (chain, long) = law_way_is_chain s k (before_of net producer consumer inputs outputs (after_cycles net s k) p) b.goes in
      ((b.needed, chain), ap suc long)

  module _ (d : ℕ) (le : net.depth ≤ d) where
    abbrev deep : Network L
    deep = with_depth net d

    deep_link : (s : State L) (k p : ℕ) → is_enabled net (after_cycles net s (suc k)) p ≡ true → (o : Option ℕ)
        → first_wait net inputs outputs (after_cycles net s k) p ≡ o → IfSome o (λ w. consumer w ≡ p)
        → Needs deep s (next_turn net s (suc k) p) (next_turn net s k (far_or producer consumer p o))
    deep_link s k p may None e own = λ h of_h is now. no_wait (cases_Bool (is_enabled net t0 p)) h is
      where
        t0 : State L
        t0 = after_cycles net s k

        parts : count_of p (cycles net s (suc k)) ≡ count_of p (cycles net s k) + count_of p (all_enabled net t0)
        parts = count-append p (cycles net s k) (all_enabled net t0)

        no_wait : (is_enabled net t0 p ≡ true) ⊎ (is_enabled net t0 p ≡ false) → (h : List ℕ) → count_of p h ≡ count_of p (cycles net s (suc k))
            → count_of p (cycles net s k) < count_of p h
        no_wait c h is =
            ⊎_elim
            (λ (on : is_enabled net t0 p ≡ true). let one = (law_cycle_is_round net t0).whole p on in omega (arith, is, parts, one))
            (λ (off : is_enabled net t0 p ≡ false).
            let (l, r) = ready net (after_cycles net s (suc k)) p may in
            let goes_ : net.is_stopped p l ≡ false = false_from_ne_true (net.is_stopped p l) (λ on. false≢true (sym (ap not on) ∙ r.going)) in
            let z = none s k p may off in
            let here : slice_get t0.locals p ≡ Some l =
            sym (local_kept net producer consumer wired t0 (all_enabled net t0) p z) ∙ ap (λ (u : State L). slice_get u.locals p) (sym (end_of-append net s (cycles net s k) (all_enabled net t0))) ∙ r.here in
            absurd (false≢true (sym off ∙ (law_none_where_enabled net inputs outputs covered t0 p l here goes_).0 e)))
            c
    deep_link s k p may (Some w) e own =
        let g = cycles net s k in
        let t0 = after_cycles net s k in
        let of_deep = (same_deeper net d s g le (law_cycles_are_lawful net producer consumer wired s k)).lawful in
        let deep_wired = wired_deeper net d producer consumer wired in
        let (l, here) = there net producer consumer inputs outputs wired t0 p w e in
        ⊎_elim
        (λ (lack : (0 < count_of w (inputs p)) × (length (values_on t0.wires w) < count_of w (net.takes p l))).
        let need = needs_value deep producer consumer deep_wired s g p w l of_deep
        (ap (λ (u : State L). slice_get u.locals p) (end_same net d s g) ∙ here)
        (record { few = subst (λ (u : State L). length (values_on u.wires w) < count_of w (net.takes p l)) (sym (end_same net d s g)) lack.1 }) in
        subst (λ b. Needs deep s (next_turn net s (suc k) p) (next_turn net s k (cond b (producer w) (consumer w)))) (sym (eq-eqb (consumer w) p own))
        (subst (λ u. Needs deep s u (next_turn net s k (producer w))) (turn s k p may (waits_off t0 l w here e)) need))
        (λ (lack : (0 < count_of w (outputs p)) × (0 < count_of w (net.sends p l)) × (net.depth ≤ length (values_on t0.wires w))).
        absurd (wired.apart w (producer_is net producer consumer wired p w l lack.1 ∙ sym own)))
        (law_unmet net inputs outputs t0 p l w here e)
      where
        waits_off : (t0 : State L) (l : L) (w : ℕ) → slice_get t0.locals p ≡ Some l → first_wait net inputs outputs t0 p ≡ Some w → is_enabled net t0 p ≡ false
        waits_off t0 l w here e =
            false_from_ne_true (is_enabled net t0 p)
            (λ on.
            let (m, r) = ready net t0 p on in
            let goes_ : net.is_stopped p m ≡ false = false_from_ne_true (net.is_stopped p m) (λ q. false≢true (sym (ap not q) ∙ r.going)) in
            let none_ : first_wait net inputs outputs t0 p ≡ None = (law_none_where_enabled net inputs outputs covered t0 p m r.here goes_).1 on in
            absurd (let f = sym none_ ∙ e in cc))

    pub deep_chain : (s : State L) (k p : ℕ) → is_enabled net (after_cycles net s k) p ≡ true → IsForValues net producer consumer inputs outputs s k p
        → IsChain deep s (next_turn net s k p) (way net producer consumer inputs outputs s k p)
    deep_chain s zero p may values = tt
    deep_chain s (suc k) p may values =
        let b = is_before s k p may in (
          deep_link s k p may (first_wait net inputs outputs (after_cycles net s k) p) refl values.0,
          deep_chain s k (before_of net producer consumer inputs outputs (after_cycles net s k) p) b.goes values.1,
        )

  pub law_way_is_deep_chain : WayIsDeepChain net producer consumer inputs outputs
  law_way_is_deep_chain d s k p le may values = deep_chain d le s k p may values

module _ {L : Type 0} (net : Network L) (producer consumer : ℕ → ℕ) (wired : IsWired net producer consumer) (s : State L) where
  needs_itself : (t : TurnOf) → Needs net s t t → IsNever net s t
  needs_itself t need h lawful =
      ⊎_elim
      (λ (taken : t.before < count_of t.p h).
      let was = taken_before net s h t.p t.before lawful taken in
      let early = need was.front was.lawful was.many was.may in
      absurd (omega (arith, early, was.many)))
      (λ (not_ : count_of t.p h ≤ t.before). not_)
      (cases_lt t.before (count_of t.p h))

  needs_never : (t u : TurnOf) → Needs net s t u → IsNever net s u → IsNever net s t
  needs_never t u need never h lawful =
      ⊎_elim
      (λ (taken : t.before < count_of t.p h).
      let was = taken_before net s h t.p t.before lawful taken in
      let early = need was.front was.lawful was.many was.may in
      let late = never was.front was.lawful in
      absurd (omega (arith, early, late)))
      (λ (not_ : count_of t.p h ≤ t.before). not_)
      (cases_lt t.before (count_of t.p h))

  stopped_never : (g : List ℕ) (p : ℕ) (l : L) → IsLawful net s g → slice_get (end_of net s g).locals p ≡ Some l → net.is_stopped p l ≡ true
      → IsNever net s (turn_after g p)
  stopped_never g p l of_g here stop h lawful =
      ⊎_elim
      (λ (taken : count_of p g < count_of p h).
      let was = taken_before net s h p (count_of p g) lawful taken in
      let (m, r) = ready net (end_of net s was.front) p was.may in
      let same : m ≡ l = let a = r.here in let b = same_local net producer consumer wired s was.front g p was.lawful of_g was.many in let c = here in cc in
      absurd (false≢true (sym (ap not (ap (net.is_stopped p) same ∙ stop)) ∙ r.going)))
      (λ (not_ : count_of p h ≤ count_of p g). not_)
      (cases_lt (count_of p g) (count_of p h))

  pub law_are_never : AreNever net s
  law_are_never = record { itself = needs_itself; behind = needs_never; stopped = stopped_never }
