-- What a turn needs, and the chains of needs that are as long as there are cycles.
use Rattle.std.proofs.Common.{◌≡◌, ℕ, zero, suc, ◌+◌, ◌<◌, ◌≤◌, Bool, true, false, not, ◌&&◌, ltb, leb, List, [], ◌∷◌, ◌++◌, length, Some, refl, sym, ap, ◌∙◌, subst, ◌⊎◌, inl, inr, ⊎_elim, arith}
use Rattle.std.specs.Prelude.{slice_get}
use Rattle.std.specs.List.{list_all}
use Rattle.std.proofs.lemmas.List.{append-nil, append_assoc}
use Rattle.std.proofs.lemmas.Bool.{cases_Bool, cases_eq, cases_lt, ltb-true, ltb-false, le-leb, false≢true}
use Rattle.raw_network.specs.Network.{Network, State, count_of, has_values, has_room, is_ready, is_enabled, step}
use Rattle.raw_network.specs.Runs.{IsLawful, end_of, kth}
use Rattle.raw_network.specs.Wired.{IsWired}
use Rattle.raw_network.proofs.Wires.{count_here, count_there, all_at_count, count_none}
use Rattle.raw_network.proofs.Diamond.{ready}
use Rattle.raw_network.proofs.Kth.{kth_at, local_other}
use Rattle.raw_network.proofs.Steps.{end_of-append}
use Rattle.raw_network.proofs.Networks.{law_same_steps}
use Rattle.raw_lockstep.specs.Lockstep.{all_enabled, cycles, after_cycles, IsRound, IsSchedule, first_rounds}
use Rattle.raw_lockstep.proofs.Cycling.{count-append, law_cycle_is_round, law_cycles_are_lawful, round_lawful, schedule_lawful}
use Rattle.raw_pace.specs.Path.{TurnOf, Needs, IsChain, NoneBelowChain, next_turn, ChainOfEach}
use Rattle.raw_pace.proofs.Fuller.{on, fuller}

-- of a list that does not pass a test one entry does not
fails_at : (f : ℕ → Bool) (ws : List ℕ) → list_all f ws ≡ false → (w : ℕ) × (f w ≡ false) × (0 < count_of w ws)
fails_at f [] e = absurd (false≢true (sym e))
fails_at f (w ∷ ws) e = by_test (f w) refl e (λ later. fails_at f ws later)
  where
    by_test : (b : Bool) → f w ≡ b → (b && list_all f ws) ≡ false
        → (list_all f ws ≡ false → (v : ℕ) × (f v ≡ false) × (0 < count_of v ws)) → (v : ℕ) × (f v ≡ false) × (0 < count_of v (w ∷ ws))
    by_test false is e rest = (w, is, omega (arith, count_here w ws))
    by_test true is e rest =
        let (v, fails, there) = rest e in (
          v,
          fails,
          ⊎_elim
              (λ (same : w ≡ v). subst (λ y. 0 < count_of y (w ∷ ws)) same (omega (arith, count_here w ws)))
              (λ (ne : w ≡ v → ⊥). omega (arith, there, count_there v w ws ne))
              (cases_eq w v),
        )

module _ {L : Type 0} (net : Network L) where
  -- of one that is not enabled, though it has not stopped, some wire has too few values or no room
  pub record Lacks (s : State L) (l : L) (p w : ℕ) : Type 0 where
    pub few : on s w < count_of w (net.takes p l)

  pub record IsFull (s : State L) (l : L) (p w : ℕ) : Type 0 where
    pub asks : 0 < count_of w (net.sends p l)
    pub full : net.depth ≤ on s w

  unmet : (s : State L) (p : ℕ) (l : L) → slice_get s.locals p ≡ Some l → not (net.is_stopped p l) ≡ true → is_enabled net s p ≡ false
      → ((w : ℕ) × Lacks s l p w) ⊎ ((w : ℕ) × IsFull s l p w)
  unmet s p l here going off = by_values (has_values (net.takes p l) s.wires) refl
    where
      is : (not (net.is_stopped p l) && (has_values (net.takes p l) s.wires && has_room net.depth (net.sends p l) s.wires)) ≡ false
      is = sym (ap (λ o. is_ready net p o s.wires) here) ∙ off

      both : (has_values (net.takes p l) s.wires && has_room net.depth (net.sends p l) s.wires) ≡ false
      both = sym (ap (λ b. b && (has_values (net.takes p l) s.wires && has_room net.depth (net.sends p l) s.wires)) going) ∙ is

      by_values : (b : Bool) → has_values (net.takes p l) s.wires ≡ b → ((w : ℕ) × Lacks s l p w) ⊎ ((w : ℕ) × IsFull s l p w)
      by_values false e =
          let (w, fails, there) = fails_at (λ v. leb (count_of v (net.takes p l)) (on s v)) (net.takes p l) e in
          inl (
            w,
            record {
              few =
                  ⊎_elim (λ (h : on s w < count_of w (net.takes p l)). h)
                  (λ (h : count_of w (net.takes p l) ≤ on s w). absurd (false≢true (sym fails ∙ le-leb (count_of w (net.takes p l)) (on s w) h)))
                  (cases_lt (on s w) (count_of w (net.takes p l)));
            },
          )
      by_values true e =
          let none : has_room net.depth (net.sends p l) s.wires ≡ false = sym (ap (λ b. b && has_room net.depth (net.sends p l) s.wires) e) ∙ both in
          let (w, fails, there) = fails_at (λ v. ltb (on s v) net.depth) (net.sends p l) none in
          inr (w, record { asks = there; full = ltb-false (on s w) net.depth fails })

module _ {L : Type 0} (net : Network L) (producer consumer : ℕ → ℕ) (wired : IsWired net producer consumer) where
  pub kth_end : (s : State L) (ps : List ℕ) (p : ℕ) → IsLawful net s ps → kth net s ps p (count_of p ps) ≡ slice_get (end_of net s ps).locals p
  kth_end s ps p h =
      subst (λ xs. kth net s xs p (count_of p ps) ≡ slice_get (end_of net s ps).locals p) (append-nil ps)
      (kth_at net s ps [] p (subst (λ xs. IsLawful net s xs) (sym (append-nil ps)) h))

  -- after as many of its steps a processor has one local state
  pub same_local : (s : State L) (f g : List ℕ) (p : ℕ) → IsLawful net s f → IsLawful net s g → count_of p f ≡ count_of p g
      → slice_get (end_of net s f).locals p ≡ slice_get (end_of net s g).locals p
  same_local s f g p of_f of_g many =
      let locals = (law_same_steps net producer consumer wired s f g of_f of_g p).locals (count_of p f) (omega arith) (omega arith) in
      sym (kth_end s f p of_f) ∙ sym locals ∙ ap (λ k. kth net s g p k) many ∙ kth_end s g p of_g

  pub consumer_is : (p w : ℕ) (l : L) → 0 < count_of w (net.takes p l) → consumer w ≡ p
  consumer_is p w l some =
      ⊎_elim (λ (e : consumer w ≡ p). e)
      (λ (ne : consumer w ≡ p → ⊥). let none = count_none consumer p w (net.takes p l) (wired.takes_own p l) ne in absurd (omega (arith, none, some)))
      (cases_eq (consumer w) p)

  pub producer_is : (p w : ℕ) (l : L) → 0 < count_of w (net.sends p l) → producer w ≡ p
  producer_is p w l some =
      ⊎_elim (λ (e : producer w ≡ p). e)
      (λ (ne : producer w ≡ p → ⊥). let none = count_none producer p w (net.sends p l) (wired.sends_own p l) ne in absurd (omega (arith, none, some)))
      (cases_eq (producer w) p)

  -- one that is enabled has the values that it takes and the room that it asks
  pub has_enough : (s : State L) (p w : ℕ) (l : L) → is_enabled net s p ≡ true → slice_get s.locals p ≡ Some l → count_of w (net.takes p l) ≤ on s w
  has_enough s p w l e here =
      let (m, r) = ready net s p e in
      let same : m ≡ l = let a = r.here in cc in
      subst (λ x. count_of w (net.takes p x) ≤ on s w) same (r.has w)

  pub has_space : (s : State L) (p w : ℕ) (l : L) → is_enabled net s p ≡ true → slice_get s.locals p ≡ Some l → 0 < count_of w (net.sends p l) → on s w < net.depth
  has_space s p w l e here some =
      let (m, r) = ready net s p e in
      let same : m ≡ l = let a = r.here in cc in
      let room : has_room net.depth (net.sends p l) s.wires ≡ true = subst (λ x. has_room net.depth (net.sends p x) s.wires ≡ true) same r.room in
      ltb-true (on s w) net.depth (all_at_count (λ v. ltb (on s v) net.depth) (net.sends p l) w room some)

  -- one that lacks values on a wire at the end of g needs the next turn of who sends there,
  pub needs_value : (s : State L) (g : List ℕ) (p w : ℕ) (l : L) → IsLawful net s g → slice_get (end_of net s g).locals p ≡ Some l
      → Lacks net (end_of net s g) l p w
      → Needs net s (record { p = p; before = count_of p g }) (record { p = producer w; before = count_of (producer w) g })
  needs_value s g p w l of_g here lacks h of_h many may =
      ⊎_elim
      (λ (more : count_of (producer w) g < count_of (producer w) h). more)
      (λ (less : count_of (producer w) h ≤ count_of (producer w) g).
      let own : consumer w ≡ p = let few = lacks.few in consumer_is p w l (omega (arith, few)) in
      let least = fuller net producer consumer wired s w h g of_h of_g less (subst (λ c. count_of c g ≤ count_of c h) (sym own) (omega (arith, many))) in
      let there = same_local s h g p of_h of_g many ∙ here in
      let enough = has_enough (end_of net s h) p w l may there in
      let few = lacks.few in
      absurd (omega (arith, least, enough, few)))
      (cases_lt (count_of (producer w) g) (count_of (producer w) h))

  -- and one that lacks room on a wire needs the next turn of who takes from it
  pub needs_room : (s : State L) (g : List ℕ) (p w : ℕ) (l : L) → IsLawful net s g → slice_get (end_of net s g).locals p ≡ Some l
      → IsFull net (end_of net s g) l p w
      → Needs net s (record { p = p; before = count_of p g }) (record { p = consumer w; before = count_of (consumer w) g })
  needs_room s g p w l of_g here is h of_h many may =
      ⊎_elim
      (λ (more : count_of (consumer w) g < count_of (consumer w) h). more)
      (λ (less : count_of (consumer w) h ≤ count_of (consumer w) g).
      let own : producer w ≡ p = producer_is p w l is.asks in
      let least = fuller net producer consumer wired s w g h of_g of_h (subst (λ c. count_of c g ≤ count_of c h) (sym own) (omega (arith, many))) less in
      let there = same_local s h g p of_h of_g many ∙ here in
      let space = has_space (end_of net s h) p w l may there is.asks in
      let full = is.full in
      absurd (omega (arith, least, space, full)))
      (cases_lt (count_of (consumer w) g) (count_of (consumer w) h))

  -- a processor without an entry keeps its local state
  pub local_kept : (s : State L) (xs : List ℕ) (p : ℕ) → count_of p xs ≡ 0 → slice_get (end_of net s xs).locals p ≡ slice_get s.locals p
  local_kept s [] p none = refl
  local_kept s (x ∷ xs) p none =
      ⊎_elim
      (λ (same : x ≡ p). absurd (omega (arith, none, count_here x xs, ap (λ y. count_of y (x ∷ xs)) same)))
      (λ (ne : x ≡ p → ⊥). local_kept (step net s x) xs p (sym (count_there p x xs ne) ∙ none) ∙ local_other net s x p (λ e. ne (sym e)))
      (cases_eq x p)

  -- a turn of the cycle before that this one needs
  pub record Before (s : State L) (k p : ℕ) : Type 0 where
    pub q : ℕ
    pub may : is_enabled net (after_cycles net s k) q ≡ true
    pub needed : Needs net s (next_turn net s (suc k) p) (next_turn net s k q)

  module _ (s : State L) (k p : ℕ) (may : is_enabled net (after_cycles net s (suc k)) p ≡ true) where
    abbrev g : List ℕ
    g = cycles net s k

    abbrev t : State L
    t = after_cycles net s k

    abbrev round : List ℕ
    round = all_enabled net t

    of_g : IsLawful net s g
    of_g = law_cycles_are_lawful net producer consumer wired s k

    of_round : IsLawful net t round
    of_round = let is = (law_cycle_is_round net t).is_round in round_lawful net producer consumer wired t round is.once is.enabled

    then' : end_of net s (g ++ round) ≡ end_of net t round
    then' = end_of-append net s g round

    may' : is_enabled net (end_of net t round) p ≡ true
    may' = subst (λ u. is_enabled net u p ≡ true) then' may

    many : count_of p (g ++ round) ≡ count_of p g + count_of p round
    many = count-append p g round

    -- where it stepped in the cycle before, it needs its own turn there
    itself : is_enabled net t p ≡ true → Before s k p
    itself on_ =
        let one = (law_cycle_is_round net t).whole p on_ in
        record { q = p; may = on_; needed = λ h of_h is now. omega (arith, is, many, one) }

    waited : is_enabled net t p ≡ false → Before s k p
    waited off =
        let (l, r) = ready net (end_of net t round) p may' in
        let none : count_of p round ≡ 0 =
        ⊎_elim (λ (z : count_of p round ≡ 0). z)
        (λ (nz : count_of p round ≡ 0 → ⊥). absurd (false≢true (sym off ∙ (law_cycle_is_round net t).is_round.enabled p (omega arith))))
        (cases_eq (count_of p round) 0) in
        let here : slice_get t.locals p ≡ Some l = sym (local_kept t round p none) ∙ r.here in
        let same : count_of p g ≡ count_of p (g ++ round) = omega (arith, many, none) in
        let turn : ◌≡◌ {A = TurnOf} (record { p = p; before = count_of p g }) (record { p = p; before = count_of p (g ++ round) }) =
        ap (λ (n : ℕ). let u : TurnOf = record { p = p; before = n } in u) same in
        ⊎_elim
        (λ (lack : (w : ℕ) × Lacks net t l p w).
        let w = lack.0 in
        let q = producer w in
        let few = lack.1.few in
        let moved : is_enabled net t q ≡ true =
        ⊎_elim
        (λ (z : count_of q round ≡ 0).
        let least = fuller net producer consumer wired t w round [] of_round tt (omega (arith, z)) (omega arith) in
        let enough = has_enough (end_of net t round) p w l may' r.here in
        absurd (omega (arith, least, enough, few)))
        (λ (nz : count_of q round ≡ 0 → ⊥). (law_cycle_is_round net t).is_round.enabled q (omega arith))
        (cases_eq (count_of q round) 0) in
        record { q = q; may = moved; needed = subst (λ u. Needs net s u (next_turn net s k q)) turn (needs_value s g p w l of_g here lack.1) })
        (λ (lack : (w : ℕ) × IsFull net t l p w).
        let w = lack.0 in
        let q = consumer w in
        let full = lack.1.full in
        let moved : is_enabled net t q ≡ true =
        ⊎_elim
        (λ (z : count_of q round ≡ 0).
        let least = fuller net producer consumer wired t w [] round tt of_round (omega arith) (omega (arith, z)) in
        let space = has_space (end_of net t round) p w l may' r.here lack.1.asks in
        absurd (omega (arith, least, space, full)))
        (λ (nz : count_of q round ≡ 0 → ⊥). (law_cycle_is_round net t).is_round.enabled q (omega arith))
        (cases_eq (count_of q round) 0) in
        record { q = q; may = moved; needed = subst (λ u. Needs net s u (next_turn net s k q)) turn (needs_room s g p w l of_g here lack.1) })
        (unmet net t p l here r.going off)

    pub before : Before s k p
    before = ⊎_elim itself waited (cases_Bool (is_enabled net t p))

  pub law_chain_of_each : ChainOfEach net
  law_chain_of_each s zero p may = ([], tt, refl)
  law_chain_of_each s (suc k) p may =
      let b = before s k p may in
      let (us, chain, many) = law_chain_of_each s k b.q b.may in
      (next_turn net s k b.q ∷ us, (b.needed, chain), ap suc many)

  -- the last of the first rounds
  pub record LastRound (s : State L) (rounds : List (List ℕ)) (k : ℕ) : Type 0 where
    pub round : List ℕ
    pub is : IsRound net (end_of net s (first_rounds k rounds)) round
    pub whole : first_rounds (suc k) rounds ≡ first_rounds k rounds ++ round

  no_round : (s : State L) → IsRound net s []
  no_round s = record { once = λ p. omega arith; enabled = λ p some. absurd (omega (arith, some)) }

  last_round : (s : State L) (rounds : List (List ℕ)) (k : ℕ) → IsSchedule net s rounds → LastRound s rounds k
  last_round s [] zero is = record { round = []; is = no_round s; whole = refl }
  last_round s [] (suc k) is = record { round = []; is = no_round s; whole = refl }
  last_round s (r ∷ rounds) zero is = record { round = r; is = is.0; whole = append-nil r }
  last_round s (r ∷ rounds) (suc k) is =
      let rest = last_round (end_of net s r) rounds k is.1 in
      record {
        round = rest.round;
        is = subst (λ u. IsRound net u rest.round) (sym (end_of-append net s r (first_rounds k rounds))) rest.is;
        whole = ap (λ xs. r ++ xs) rest.whole ∙ sym (append_assoc r (first_rounds k rounds) rest.round);
      }

  pub law_none_below_chain : NoneBelowChain net
  law_none_below_chain s t us rounds zero chain is early = absurd (omega (arith, early))
  law_none_below_chain s t us rounds (suc k) chain is early =
      let last = last_round s rounds k is in
      let parts : count_of t.p (first_rounds (suc k) rounds) ≡ count_of t.p (first_rounds k rounds) + count_of t.p last.round =
      ap (λ xs. count_of t.p xs) last.whole ∙ count-append t.p (first_rounds k rounds) last.round in
      ⊎_elim
      (λ (sooner : t.before < count_of t.p (first_rounds k rounds)).
      let less = law_none_below_chain s t us rounds k chain is sooner in omega (arith, less))
      (λ (now : count_of t.p (first_rounds k rounds) ≤ t.before).
      let once = last.is.once t.p in
      let many : count_of t.p (first_rounds k rounds) ≡ t.before = omega (arith, early, parts, once, now) in
      let may = last.is.enabled t.p (omega (arith, early, parts, now)) in
      by_rest us chain many may (λ u vs of_u early'. law_none_below_chain s u vs rounds k of_u is early'))
      (cases_lt t.before (count_of t.p (first_rounds k rounds)))
    where
      by_rest : (us : List TurnOf) → IsChain net s t us → count_of t.p (first_rounds k rounds) ≡ t.before
          → is_enabled net (end_of net s (first_rounds k rounds)) t.p ≡ true
          → ((u : TurnOf) (vs : List TurnOf) → IsChain net s u vs → u.before < count_of u.p (first_rounds k rounds) → length (u ∷ vs) ≤ k)
          → length (t ∷ us) ≤ suc k
      by_rest [] chain many may rest = omega arith
      by_rest (u ∷ us) chain many may rest =
          let need = chain.0 (first_rounds k rounds) (schedule_lawful net producer consumer wired s rounds k is) many may in
          let less = rest u us chain.1 need in
          omega (arith, less)
