-- Where touches cost no more stall turns, no step is later.
use Rattle.std.proofs.Common.{◌≡◌, ℕ, zero, suc, ◌+◌, ◌<◌, ◌≤◌, true, false, cond, not, ◌&&◌, ◌||◌, List, [], ◌∷◌, ◌++◌, length, Option, Some, None, refl, sym, ap, ◌∙◌, subst, ◌⊎◌, inl, inr, ⊎_elim, arith}
use Rattle.std.specs.Prelude.{slice_get, option_map}
use Rattle.std.specs.List.{filter_map, range_with_len}
use Rattle.std.proofs.lemmas.List.{append-nil}
use Rattle.std.proofs.lemmas.Bool.{cases_Bool, cases_eq, and_parts, and_from, ltb-true, ltb-false, le-ltb, false≢true, false_from_ne_true}
use Rattle.raw_network.specs.Network.{Network, State, Event, count_of, is_enabled}
use Rattle.raw_network.specs.Runs.{IsLawful, end_of, events_of, touches, IsQuiet}
use Rattle.raw_network.specs.Wired.{IsWired}
use Rattle.raw_network.proofs.Diamond.{ready}
use Rattle.raw_network.proofs.Erased.{length-events_of}
use Rattle.raw_network.proofs.SameRest.{same_ends, no_more_steps}
use Rattle.raw_network.proofs.Steps.{end_of-append, lawful-append}
use Rattle.raw_lockstep.specs.Lockstep.{all_enabled, cycles, after_cycles, IsRound}
use Rattle.raw_lockstep.specs.Stalls.{Paying, owes, with_stalls, unpaid, without_stalls, owes_from, touched_in, paid_in, owes_at, touched_by, paid_by, steps_in, all_fired, all_stalled, IsStepRound, AreStepsIn}
use Rattle.raw_lockstep.proofs.Cycling.{count-append, count_filtered, filtered_passes, enabled_there, law_cycle_is_round, law_cycles_are_lawful, round_lawful, stays_ahead}
use Rattle.raw_lockstep.proofs.Stalling.{untouched, unpaid_none, local_there, law_stays_wired, law_may_turn, enabled_step, enabled_turn, law_steps_of_turns, law_cycle_fires, law_more_turns, turn_round, round_steps, steps_in-append}
use Rattle.raw_pace.specs.Pace.{CostsNoMore, FewerStallsAreAhead, FewerStallsRestToo}

-- what it is to owe
owes_is : {L : Type 0} (k : ℕ → List ℕ → ℕ) (s : State (Paying L)) (p : ℕ) → owes_at k s p ≡ true → paid_by s p < k p (touched_by s p)
owes_is {L = L} k s p e = from (slice_get s.locals p) e
  where
    from : (o : Option (Paying L)) → owes_from k p o ≡ true → paid_in o < k p (touched_in o)
    from None e = absurd (false≢true e)
    from (Some x) e = ltb-true x.paid (k p x.touched) e

owes_not : {L : Type 0} (k : ℕ → List ℕ → ℕ) (s : State (Paying L)) (p : ℕ) (x : Paying L) → slice_get s.locals p ≡ Some x
    → owes_at k s p ≡ false → k p (touched_by s p) ≤ paid_by s p
owes_not {L = L} k s p x here e = from (slice_get s.locals p) here e
  where
    from : (o : Option (Paying L)) → o ≡ Some x → owes_from k p o ≡ false → k p (touched_in o) ≤ paid_in o
    from None here e = absurd (cc here)
    from (Some y) here e = ltb-false y.paid (k p y.touched) e

owes_none : {L : Type 0} (k : ℕ → List ℕ → ℕ) (s : State (Paying L)) (p : ℕ) → k p (touched_by s p) ≤ paid_by s p → owes_at k s p ≡ false
owes_none {L = L} k s p le = from (slice_get s.locals p) le
  where
    from : (o : Option (Paying L)) → k p (touched_in o) ≤ paid_in o → owes_from k p o ≡ false
    from None le = refl
    from (Some y) le = le-ltb y.paid (k p y.touched) le

-- one step touches one address at most
few_touched : {L : Type 0} (es : List (Event L)) → length es ≤ 1
    → (filter_map (λ (e : Event L). e.touched) es ≡ []) ⊎ ((a : ℕ) × (filter_map (λ (e : Event L). e.touched) es ≡ a ∷ []))
few_touched [] few = inl refl
few_touched {L = L} (e ∷ []) few = by_touch e.touched refl
  where
    by_touch : (o : Option ℕ) → e.touched ≡ o
        → (filter_map (λ (e : Event L). e.touched) (e ∷ []) ≡ []) ⊎ ((a : ℕ) × (filter_map (λ (e : Event L). e.touched) (e ∷ []) ≡ a ∷ []))
    by_touch None is = inl (rw is)
    by_touch (Some a) is = inr (a, rw is)
few_touched (e ∷ f ∷ es) few = absurd (omega arith)

none_touched : {L : Type 0} (es : List (Event L)) → length es ≡ 0 → filter_map (λ (e : Event L). e.touched) es ≡ []
none_touched [] none = refl
none_touched (e ∷ es) none = absurd (omega arith)

module _ {L : Type 0} (net : Network L) (less cost : ℕ → List ℕ → ℕ) (costs : CostsNoMore less cost) (producer consumer : ℕ → ℕ) (wired : IsWired net producer consumer) where
  abbrev dear : Network (Paying L)
  dear = with_stalls net cost

  abbrev cheap : Network (Paying L)
  cheap = with_stalls net less

  cheap_wired : IsWired cheap producer consumer
  cheap_wired = law_stays_wired net less producer consumer wired

  dear_wired : IsWired dear producer consumer
  dear_wired = law_stays_wired net cost producer consumer wired

  -- what is left to pay by the lesser cost is no more
  pub record Spares (c b : State (Paying L)) : Type 0 where
    pub same : without_stalls b ≡ without_stalls c
    pub touched : (p : ℕ) → touched_by b p ≡ touched_by c p
    pub within : (p : ℕ) → paid_by c p ≤ cost p (touched_by c p)
    pub fewer : (p : ℕ) → (less p (touched_by c p) ≤ paid_by b p) ⊎ (less p (touched_by c p) + paid_by c p ≤ cost p (touched_by c p) + paid_by b p)

  first_spares : (s : State L) → Spares (unpaid s) (unpaid s)
  first_spares s =
      record {
        same = refl;
        touched = λ p. refl;
        within = λ p. omega (arith, unpaid_none s p);
        fewer = λ p. inr (omega (arith, costs.first p, ap (less p) (untouched s p), ap (cost p) (untouched s p), unpaid_none s p));
      }

  module _ (c b : State (Paying L)) (rel : Spares c b) where
    abbrev turns : List ℕ
    turns = all_enabled dear c

    abbrev fired : List ℕ
    fired = all_fired net cost c

    abbrev stalled : List ℕ
    stalled = all_stalled net less b

    -- what has paid by the greater cost has by the lesser
    spared : (p : ℕ) (x : Paying L) → slice_get c.locals p ≡ Some x → owes_at cost c p ≡ false → owes_at less b p ≡ false
    spared p x here free =
        let enough = owes_not cost c p x here free in
        owes_none less b p
        (⊎_elim
        (λ (le : less p (touched_by c p) ≤ paid_by b p). omega (arith, le, ap (less p) (rel.touched p)))
        (λ (le : less p (touched_by c p) + paid_by c p ≤ cost p (touched_by c p) + paid_by b p). omega (arith, le, enough, ap (less p) (rel.touched p)))
        (rel.fewer p))

    there_too : (p : ℕ) (x : Paying L) → slice_get c.locals p ≡ Some x → (y : Paying L) × (slice_get b.locals p ≡ Some y) × (y.local ≡ x.local)
    there_too p x here = from (slice_get b.locals p) refl
      where
        there : option_map (λ (z : Paying L). z.local) (slice_get b.locals p) ≡ Some x.local
        there =
            sym (local_there net less b p (slice_get b.locals p) refl) ∙ ap (λ (t : State L). slice_get t.locals p) rel.same
            ∙ local_there net cost c p (Some x) here

        from : (o : Option (Paying L)) → slice_get b.locals p ≡ o → (y : Paying L) × (slice_get b.locals p ≡ Some y) × (y.local ≡ x.local)
        from None e = absurd (let f = there in cc)
        from (Some y) e = (y, e, (let f = there in cc))

    -- a processor that takes a step in the cycle
    fired_passes : (p : ℕ) → 0 < count_of p fired → (is_enabled net (without_stalls c) p ≡ true) × (owes_at cost c p ≡ false)
    fired_passes p some =
        let parts =
        and_parts (is_enabled net (without_stalls c) p) (not (owes_at cost c p))
        (filtered_passes (λ q. is_enabled net (without_stalls c) q && not (owes_at cost c q)) p (range_with_len 0 (length c.locals)) some) in
        (parts.0, false_from_ne_true (owes_at cost c p) (λ e. false≢true (sym (ap not e) ∙ parts.1)))

    -- and one that pays in it
    pays : (p : ℕ) → 0 < count_of p turns → count_of p fired ≡ 0 → owes_at cost c p ≡ true
    pays p some none =
        ⊎_elim
        (λ (e : owes_at cost c p ≡ true). e)
        (λ (e : owes_at cost c p ≡ false).
        let may = (law_cycle_is_round dear c).is_round.enabled p some in
        let step_may = enabled_step net cost c p may e in
        let passes : (is_enabled net (without_stalls c) p && not (owes_at cost c p)) ≡ true = and_from (is_enabled net (without_stalls c) p) (not (owes_at cost c p)) step_may (ap not e) in
        let one = count_filtered (λ q. is_enabled net (without_stalls c) q && not (owes_at cost c q)) (length c.locals) p (enabled_there dear c p may) in
        absurd (omega (arith, none, one ∙ ap (λ t. cond t 1 0) passes)))
        (cases_Bool (owes_at cost c p))

    is_step_round : IsStepRound net less b fired
    is_step_round =
        let is = (law_cycle_fires net cost c).is_round in
        record {
          once = is.once;
          enabled = λ p some. subst (λ t. is_enabled net t p ≡ true) (sym rel.same) (is.enabled p some);
          paid =
              λ p some.
              let passes = fired_passes p some in
              let (x, r) = ready dear c p (enabled_turn net cost c p passes.0) in
              spared p x r.here passes.1;
        }

    pub cheap_round : IsRound cheap b (fired ++ stalled)
    cheap_round = turn_round net less b fired is_step_round

    pub cheap_steps : steps_in net less b (fired ++ stalled) ≡ fired
    cheap_steps = round_steps net less b fired is_step_round

    pub dear_steps : steps_in net cost c turns ≡ fired
    dear_steps = (law_cycle_fires net cost c).steps

    dear_lawful : IsLawful dear c turns
    dear_lawful = let is = (law_cycle_is_round dear c).is_round in round_lawful dear producer consumer dear_wired c turns is.once is.enabled

    cheap_lawful : IsLawful cheap b (fired ++ stalled)
    cheap_lawful = round_lawful cheap producer consumer cheap_wired b (fired ++ stalled) cheap_round.once cheap_round.enabled

    abbrev c' : State (Paying L)
    c' = end_of dear c turns

    abbrev b' : State (Paying L)
    b' = end_of cheap b (fired ++ stalled)

    dear_are : AreStepsIn net cost c turns fired
    dear_are = subst (λ xs. AreStepsIn net cost c turns xs) dear_steps (law_steps_of_turns net cost c turns dear_lawful)

    cheap_are : AreStepsIn net less b (fired ++ stalled) fired
    cheap_are = subst (λ xs. AreStepsIn net less b (fired ++ stalled) xs) cheap_steps (law_steps_of_turns net less b (fired ++ stalled) cheap_lawful)

    same_after : without_stalls b' ≡ without_stalls c'
    same_after = sym cheap_are.ends ∙ ap (λ t. end_of net t fired) rel.same ∙ dear_are.ends

    touched_after : (p : ℕ) → touched_by b' p ≡ touched_by c' p
    touched_after p =
        cheap_are.touched p
        ∙ ap (λ xs. xs ++ touches net (without_stalls b) fired p) (rel.touched p)
        ∙ ap (λ t. touched_by c p ++ touches net t fired p) rel.same
        ∙ sym (dear_are.touched p)

    -- what a processor has paid
    abbrev IsSpared : ℕ → Type 0
    IsSpared p =
        (paid_by c' p ≤ cost p (touched_by c' p))
        × ((less p (touched_by c' p) ≤ paid_by b' p) ⊎ (less p (touched_by c' p) + paid_by c' p ≤ cost p (touched_by c' p) + paid_by b' p))

    count_u : (p : ℕ) → count_of p (fired ++ stalled) ≡ count_of p fired + count_of p stalled
    count_u p = count-append p fired stalled

    idle_touched : (p : ℕ) → count_of p fired ≡ 0 → touched_by c' p ≡ touched_by c p
    idle_touched p none =
        dear_are.touched p
        ∙ ap (λ xs. touched_by c p ++ xs) (none_touched (events_of net (without_stalls c) fired p) (length-events_of net (without_stalls c) fired p ∙ none))
        ∙ append-nil (touched_by c p)

    -- of one that pays by the greater cost and not by the lesser nothing is left by that
    pays_too : (p : ℕ) → 0 < count_of p turns → owes_at less b p ≡ true → count_of p stalled ≡ 1
    pays_too p some e =
        let may = (law_cycle_is_round dear c).is_round.enabled p some in
        let (x, r) = ready dear c p may in
        let (y, here, same) = there_too p x r.here in
        let going : not (net.is_stopped p y.local) ≡ true = ap (λ l. not (net.is_stopped p l)) same ∙ r.going in
        let owing : owes less p y ≡ true = sym (ap (λ o. owes_from less p o) here) ∙ e in
        let turn : is_enabled cheap b p ≡ true =
        law_may_turn net less b p y here
        ∙ and_from (not (net.is_stopped p y.local)) (owes less p y || is_enabled net (without_stalls b) p) going
        (ap (λ t. t || is_enabled net (without_stalls b) p) owing) in
        count_filtered (λ q. is_enabled cheap b q && owes_at less b q) (length b.locals) p (enabled_there cheap b p turn)
        ∙ ap (λ t. cond t 1 0) (and_from (is_enabled cheap b p) (owes_at less b p) turn e)

    idle_spared : (p : ℕ) → count_of p fired ≡ 0 → IsSpared p
    idle_spared p none = ⊎_elim no_turn one_turn (cases_eq (count_of p turns) 0)
      where
        no_turn : count_of p turns ≡ 0 → IsSpared p
        no_turn zero_ =
            let t = idle_touched p none in
            let kept : paid_by c' p ≡ paid_by c p = omega (arith, dear_are.paid p, none, zero_) in
            let more : paid_by b p ≤ paid_by b' p = omega (arith, cheap_are.paid p, none) in (
              omega (arith, kept, rel.within p, ap (cost p) t),
              ⊎_elim
                  (λ (le : less p (touched_by c p) ≤ paid_by b p). inl (omega (arith, le, more, ap (less p) t)))
                  (λ (le : less p (touched_by c p) + paid_by c p ≤ cost p (touched_by c p) + paid_by b p). inr (omega (arith, le, more, kept, ap (less p) t, ap (cost p) t)))
                  (rel.fewer p),
            )

        one_turn : (count_of p turns ≡ 0 → ⊥) → IsSpared p
        one_turn nz =
            let t = idle_touched p none in
            let some : 0 < count_of p turns = omega arith in
            let once = (law_cycle_is_round dear c).is_round.once p in
            let one : paid_by c' p ≡ suc (paid_by c p) = omega (arith, dear_are.paid p, none, some, once) in
            let owing = owes_is cost c p (pays p some none) in
            let more : paid_by b p ≤ paid_by b' p = omega (arith, cheap_are.paid p, none) in (
              omega (arith, one, owing, ap (cost p) t),
              ⊎_elim
                  (λ (e : owes_at less b p ≡ true).
                  let paid = pays_too p some e in
                  let now : paid_by b' p ≡ suc (paid_by b p) = omega (arith, cheap_are.paid p, none, paid, count_u p) in
                  ⊎_elim
                  (λ (le : less p (touched_by c p) ≤ paid_by b p). inl (omega (arith, le, more, ap (less p) t)))
                  (λ (le : less p (touched_by c p) + paid_by c p ≤ cost p (touched_by c p) + paid_by b p). inr (omega (arith, le, now, one, ap (less p) t, ap (cost p) t)))
                  (rel.fewer p))
                  (λ (e : owes_at less b p ≡ false).
                  let (x, r) = ready dear c p ((law_cycle_is_round dear c).is_round.enabled p some) in
                  let there = there_too p x r.here in
                  let le = owes_not less b p there.0 there.1 e in
                  inl (omega (arith, le, more, ap (less p) t, ap (less p) (rel.touched p))))
                  (cases_Bool (owes_at less b p)),
            )

    step_spared : (p : ℕ) → (count_of p fired ≡ 0 → ⊥) → IsSpared p
    step_spared p nz =
        ⊎_elim
        (λ (e : touches net (without_stalls c) fired p ≡ []).
        let t : touched_by c' p ≡ touched_by c p = dear_are.touched p ∙ ap (λ xs. touched_by c p ++ xs) e ∙ append-nil (touched_by c p) in
        (omega (arith, kept, rel.within p, ap (cost p) t), inl (omega (arith, enough, more, ap (less p) t))))
        (λ (e : (a : ℕ) × (touches net (without_stalls c) fired p ≡ a ∷ [])).
        let t : touched_by c' p ≡ touched_by c p ++ e.0 ∷ [] = dear_are.touched p ∙ ap (λ xs. touched_by c p ++ xs) e.1 in (
          omega (arith, kept, rel.within p, costs.rises p (touched_by c p) e.0, ap (cost p) t),
          inr (omega (arith, kept, all, rel.within p, enough, more, costs.each p (touched_by c p) e.0, ap (less p) t, ap (cost p) t)),
        ))
        (few_touched (events_of net (without_stalls c) fired p) (omega (arith, length-events_of net (without_stalls c) fired p, (law_cycle_fires net cost c).is_round.once p)))
      where
        passes : (is_enabled net (without_stalls c) p ≡ true) × (owes_at cost c p ≡ false)
        passes = fired_passes p (omega arith)

        turn : is_enabled dear c p ≡ true
        turn = enabled_turn net cost c p passes.0

        here : (x : Paying L) × (slice_get c.locals p ≡ Some x)
        here = let (x, r) = ready dear c p turn in (x, r.here)

        all : cost p (touched_by c p) ≤ paid_by c p
        all = owes_not cost c p here.0 here.1 passes.1

        enough : less p (touched_by c p) ≤ paid_by b p
        enough =
            ⊎_elim
            (λ (le : less p (touched_by c p) ≤ paid_by b p). le)
            (λ (le : less p (touched_by c p) + paid_by c p ≤ cost p (touched_by c p) + paid_by b p). omega (arith, le, all))
            (rel.fewer p)

        kept : paid_by c' p ≡ paid_by c p
        kept = omega (arith, dear_are.paid p, (law_cycle_is_round dear c).whole p turn, (law_cycle_fires net cost c).is_round.once p)

        more : paid_by b p ≤ paid_by b' p
        more = omega (arith, cheap_are.paid p, count_u p)

    is_spared : (p : ℕ) → IsSpared p
    is_spared p = ⊎_elim (idle_spared p) (step_spared p) (cases_eq (count_of p fired) 0)

    pub next_spares : Spares c' b'
    next_spares = record { same = same_after; touched = touched_after; within = λ p. (is_spared p).0; fewer = λ p. (is_spared p).1 }

    pub quiet_too : IsQuiet dear c → IsQuiet cheap b
    quiet_too quiet p = false_from_ne_true (is_enabled cheap b p) (λ e. false≢true (sym (quiet p) ∙ goes e))
      where
        goes : is_enabled cheap b p ≡ true → is_enabled dear c p ≡ true
        goes e =
            ⊎_elim
            (λ (owing : owes_at less b p ≡ true). from (slice_get c.locals p) refl owing)
            (λ (free : owes_at less b p ≡ false).
            enabled_turn net cost c p (subst (λ t. is_enabled net t p ≡ true) rel.same (enabled_step net less b p e free)))
            (cases_Bool (owes_at less b p))
          where
            at : (x : Paying L) → slice_get c.locals p ≡ Some x → owes_at less b p ≡ true → is_enabled dear c p ≡ true
            at x here owing =
                let (y, r) = ready cheap b p e in
                let (z, there, same) = there_too p x here in
                let going : not (net.is_stopped p x.local) ≡ true =
                sym (ap (λ l. not (net.is_stopped p l)) same) ∙ (let f = r.here in let g = r.going in let h : y ≡ z = cc in ap (λ (u : Paying L). not (net.is_stopped p u.local)) (sym h) ∙ g) in
                let due : owes_at cost c p ≡ true =
                ⊎_elim (λ (d : owes_at cost c p ≡ true). d)
                (λ (d : owes_at cost c p ≡ false). absurd (false≢true (sym (spared p x here d) ∙ owing)))
                (cases_Bool (owes_at cost c p)) in
                law_may_turn net cost c p x here
                ∙ and_from (not (net.is_stopped p x.local)) (owes cost p x || is_enabled net (without_stalls c) p) going
                (ap (λ t. t || is_enabled net (without_stalls c) p) (sym (ap (λ o. owes_from cost p o) here) ∙ due))

            from : (o : Option (Paying L)) → slice_get c.locals p ≡ o → owes_at less b p ≡ true → is_enabled dear c p ≡ true
            from None here owing =
                let (y, r) = ready cheap b p e in
                absurd (let f = sym (local_there net less b p (Some y) r.here) ∙ ap (λ (t : State L). slice_get t.locals p) rel.same ∙ local_there net cost c p None here in cc)
            from (Some x) here owing = at x here owing

  -- turns by the lesser cost with the steps of so many cycles by the greater
  pub record HasTurns (s : State L) (k : ℕ) : Type 0 where
    pub turns_ : List ℕ
    pub lawful : IsLawful cheap (unpaid s) turns_
    pub spares : Spares (after_cycles dear (unpaid s) k) (end_of cheap (unpaid s) turns_)
    pub behind : (p : ℕ) → count_of p turns_ ≤ count_of p (cycles cheap (unpaid s) k)
    pub steps : steps_in net less (unpaid s) turns_ ≡ steps_in net cost (unpaid s) (cycles dear (unpaid s) k)

  pub has_turns : (s : State L) (k : ℕ) → HasTurns s k
  has_turns s zero = record { turns_ = []; lawful = tt; spares = first_spares s; behind = λ p. omega arith; steps = refl }
  has_turns s (suc k) =
      let old = has_turns s k in
      let c = after_cycles dear (unpaid s) k in
      let b = end_of cheap (unpaid s) old.turns_ in
      let round = all_fired net cost c ++ all_stalled net less b in
      let is = cheap_round c b old.spares in
      record {
        turns_ = old.turns_ ++ round;
        lawful = lawful-append cheap (unpaid s) old.turns_ round old.lawful (round_lawful cheap producer consumer cheap_wired b round is.once is.enabled);
        spares =
            subst (λ t. Spares (after_cycles dear (unpaid s) (suc k)) t) (sym (end_of-append cheap (unpaid s) old.turns_ round))
            (subst (λ t. Spares t (end_of cheap b round)) (sym (end_of-append dear (unpaid s) (cycles dear (unpaid s) k) (all_enabled dear c))) (next_spares c b old.spares));
        behind = stays_ahead cheap producer consumer cheap_wired (unpaid s) old.turns_ (cycles cheap (unpaid s) k) round old.lawful
            (law_cycles_are_lawful cheap producer consumer cheap_wired (unpaid s) k) old.behind is;
        steps =
            steps_in-append net less (unpaid s) old.turns_ round
            ∙ ap (λ xs. steps_in net less (unpaid s) old.turns_ ++ xs) (cheap_steps c b old.spares ∙ sym (dear_steps c b old.spares))
            ∙ ap (λ xs. xs ++ steps_in net cost c (all_enabled dear c)) old.steps
            ∙ sym (steps_in-append net cost (unpaid s) (cycles dear (unpaid s) k) (all_enabled dear c));
      }

  pub fewer_ahead : (s : State L) (k p : ℕ)
      → count_of p (steps_in net cost (unpaid s) (cycles dear (unpaid s) k)) ≤ count_of p (steps_in net less (unpaid s) (cycles cheap (unpaid s) k))
  fewer_ahead s k p =
      let has = has_turns s k in
      subst (λ xs. count_of p xs ≤ count_of p (steps_in net less (unpaid s) (cycles cheap (unpaid s) k))) has.steps
      (law_more_turns net less producer consumer wired (unpaid s) (cycles cheap (unpaid s) k) has.turns_ p
      (law_cycles_are_lawful cheap producer consumer cheap_wired (unpaid s) k) has.lawful (has.behind p))

  pub fewer_rest : (s : State L) (k : ℕ) → IsQuiet dear (after_cycles dear (unpaid s) k) → IsQuiet cheap (after_cycles cheap (unpaid s) k)
  fewer_rest s k quiet =
      let has = has_turns s k in
      let rest = quiet_too (after_cycles dear (unpaid s) k) (end_of cheap (unpaid s) has.turns_) has.spares quiet in
      let of_cycles = law_cycles_are_lawful cheap producer consumer cheap_wired (unpaid s) k in
      subst (λ t. IsQuiet cheap t)
      (sym (same_ends cheap producer consumer cheap_wired (unpaid s) (cycles cheap (unpaid s) k) has.turns_ of_cycles has.lawful
      (λ p. omega (arith, no_more_steps cheap producer consumer cheap_wired (unpaid s) (cycles cheap (unpaid s) k) has.turns_ of_cycles has.lawful rest p, has.behind p))))
      rest

pub law_fewer_stalls_are_ahead : {L : Type 0} (net : Network L) (producer consumer : ℕ → ℕ) → IsWired net producer consumer → FewerStallsAreAhead net
law_fewer_stalls_are_ahead net producer consumer wired less cost s k p costs = fewer_ahead net less cost costs producer consumer wired s k p

pub law_fewer_stalls_rest_too : {L : Type 0} (net : Network L) (producer consumer : ℕ → ℕ) → IsWired net producer consumer → FewerStallsRestToo net
law_fewer_stalls_rest_too net producer consumer wired less cost s k costs quiet = fewer_rest net less cost costs producer consumer wired s k quiet
