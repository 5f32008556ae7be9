-- A lawful list with the first step of an enabled processor done first.
use Rattle.std.proofs.Common.{◌≡◌, ℕ, ◌<◌, Bool, true, false, eqb, List, [], ◌∷◌, refl, sym, ap, ◌∙◌, subst, ◌⊎◌, ⊎_elim, arith}
use Rattle.std.proofs.lemmas.Bool.{cases_eq, ne_eqb, eqb-true}
use Rattle.raw_network.specs.Network.{Network, State, count_of, is_enabled, step, event_of}
use Rattle.raw_network.specs.Runs.{IsLawful, end_of, with_first, events_of}
use Rattle.raw_network.specs.Wired.{IsWired}
use Rattle.raw_network.proofs.Wires.{count_here, count_there}
use Rattle.raw_network.proofs.Diamond.{still_enabled, same_event, steps_commute}
use Rattle.raw_network.proofs.Erased.{erased, erased_here, erased_there}

-- two entries that are not both there change places
swap_firsts : {A : Type 0} (b c : Bool) (x y : A) (zs : List A) → (b ≡ true → c ≡ true → ⊥)
    → with_first b x (with_first c y zs) ≡ with_first c y (with_first b x zs)
swap_firsts true true x y zs h = absurd (h refl refl)
swap_firsts true false x y zs h = refl
swap_firsts false true x y zs h = refl
swap_firsts false false x y zs h = refl

not_both : (p q r : ℕ) → (p ≡ q → ⊥) → eqb p r ≡ true → eqb q r ≡ true → ⊥
not_both p q r ne a b = ne (eqb-true p r a ∙ sym (eqb-true q r b))

module _ {L : Type 0} (net : Network L) (producer consumer : ℕ → ℕ) (wired : IsWired net producer consumer) where
  -- a lawful list with the first step of an enabled processor done first
  pub record Fronted (s : State L) (p : ℕ) (ps : List ℕ) : Type 0 where
    pub lawful : IsLawful net (step net s p) (erased p ps)
    pub ends : 0 < count_of p ps → end_of net (step net s p) (erased p ps) ≡ end_of net s ps
    pub kept : count_of p ps ≡ 0 → is_enabled net (end_of net s ps) p ≡ true
    pub did : (r : ℕ) → (0 < count_of p ps) ⊎ (p ≡ r → ⊥) → events_of net s (p ∷ erased p ps) r ≡ events_of net s ps r

  fronted_none : (s : State L) (p : ℕ) → is_enabled net s p ≡ true → Fronted s p []
  fronted_none s p e =
      record {
        lawful = tt;
        ends = λ h. absurd (omega arith);
        kept = λ h. e;
        did = λ r c. ⊎_elim (λ h. absurd (omega arith)) (λ ne. rw (ne_eqb p r ne)) c;
      }

  fronted_here : (s : State L) (p : ℕ) (ps : List ℕ) → IsLawful net s (p ∷ ps) → Fronted s p (p ∷ ps)
  fronted_here s p ps h =
      record {
        lawful = subst (λ qs. IsLawful net (step net s p) qs) (sym (erased_here p ps)) h.1;
        ends = λ c. ap (λ qs. end_of net (step net s p) qs) (erased_here p ps);
        kept = λ c. let e = count_here p ps in absurd (omega arith);
        did = λ r c. ap (λ qs. events_of net s (p ∷ qs) r) (erased_here p ps);
      }

  module _ (s : State L) (p q : ℕ) (ps : List ℕ) (ne : q ≡ p → ⊥) (ep : is_enabled net s p ≡ true) (h : IsLawful net s (q ∷ ps)) (rest : Fronted (step net s q) p ps) where
    commute : step net (step net s q) p ≡ step net (step net s p) q
    commute = steps_commute net producer consumer wired s q p ne h.0 ep

    fronted_there : Fronted s p (q ∷ ps)
    fronted_there =
        record {
          lawful = subst (λ qs. IsLawful net (step net s p) qs) (sym (erased_there p q ps ne))
              (still_enabled net producer consumer wired s p q (λ e. ne (sym e)) ep h.0, subst (λ t. IsLawful net t (erased p ps)) commute rest.lawful);
          ends = λ c.
              ap (λ qs. end_of net (step net s p) qs) (erased_there p q ps ne)
              ∙ ap (λ t. end_of net t (erased p ps)) (sym commute)
              ∙ rest.ends (subst (λ n. 0 < n) (count_there p q ps ne) c);
          kept = λ c. rest.kept (sym (count_there p q ps ne) ∙ c);
          did = did_there;
        }
      where
        first_two : (r : ℕ)
            → events_of net s (p ∷ (q ∷ erased p ps)) r
            ≡ with_first (eqb q r) (event_of net s q) (events_of net (step net s q) (p ∷ erased p ps) r)
        first_two r =
            ap
            (λ e. with_first (eqb p r) (event_of net s p) (with_first (eqb q r) e (events_of net (step net (step net s p) q) (erased p ps) r)))
            (same_event net producer consumer wired s p q (λ e. ne (sym e)) ep h.0)
            ∙ swap_firsts (eqb p r) (eqb q r) (event_of net s p) (event_of net s q)
            (events_of net (step net (step net s p) q) (erased p ps) r) (not_both p q r (λ e. ne (sym e)))
            ∙ ap
            (λ e. with_first (eqb q r) (event_of net s q) (with_first (eqb p r) e (events_of net (step net (step net s p) q) (erased p ps) r)))
            (sym (same_event net producer consumer wired s q p ne h.0 ep))
            ∙ ap
            (λ t. with_first (eqb q r) (event_of net s q) (with_first (eqb p r) (event_of net (step net s q) p) (events_of net t (erased p ps) r)))
            (sym commute)

        did_there : (r : ℕ) → (0 < count_of p (q ∷ ps)) ⊎ (p ≡ r → ⊥)
            → events_of net s (p ∷ erased p (q ∷ ps)) r ≡ events_of net s (q ∷ ps) r
        did_there r c =
            ap (λ qs. events_of net s (p ∷ qs) r) (erased_there p q ps ne)
            ∙ first_two r
            ∙ ap (λ es. with_first (eqb q r) (event_of net s q) es) (rest.did r (subst (λ n. (0 < n) ⊎ (p ≡ r → ⊥)) (count_there p q ps ne) c))

  -- the first step of an enabled processor may be done first
  pub fronted : (s : State L) (p : ℕ) (ps : List ℕ) → is_enabled net s p ≡ true → IsLawful net s ps → Fronted s p ps
  fronted s p [] ep h = fronted_none s p ep
  fronted s p (q ∷ ps) ep h =
      ⊎_elim
      (λ e. subst (λ x. IsLawful net s (x ∷ ps) → Fronted s p (x ∷ ps)) (sym e) (fronted_here s p ps) h)
      (λ ne. fronted_there s p q ps ne ep h (fronted (step net s q) p ps (still_enabled net producer consumer wired s q p ne h.0 ep) h.1))
      (cases_eq q p)
