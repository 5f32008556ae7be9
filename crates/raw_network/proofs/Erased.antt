-- A list of steps without the first step of one processor.
use Rattle.std.proofs.Common.{◌≡◌, ℕ, suc, ◌<◌, cond, eqb, List, [], ◌∷◌, length, refl, sym, ap, ◌∙◌, subst, ⊎_elim, arith}
use Rattle.std.specs.Prelude.{◌==◌, if◌then◌else◌}
use Rattle.std.proofs.lemmas.Bool.{cases_eq, eq-eqb, ne_eqb}
use Rattle.raw_network.specs.Network.{Network, State, count_of, step, event_of}
use Rattle.raw_network.specs.Runs.{events_of}
use Rattle.raw_network.proofs.Wires.{count_here, count_there}

-- the list without the first entry of a processor
abbrev pub erased : ℕ → List ℕ → List ℕ
erased p [] = []
erased p (q ∷ ps) = if q == p then ps else q ∷ erased p ps

-- lists without one entry
pub erased_here : (p : ℕ) (ps : List ℕ) → erased p (p ∷ ps) ≡ ps
erased_here p ps = rw (eq-eqb p p refl)

-- or of another processor
pub erased_there : (p q : ℕ) (ps : List ℕ) → (q ≡ p → ⊥) → erased p (q ∷ ps) ≡ q ∷ erased p ps
erased_there p q ps ne = rw (ne_eqb q p ne)

-- counts without one entry
pub count_erased_same : (p : ℕ) (ps : List ℕ) → 0 < count_of p ps → count_of p ps ≡ suc (count_of p (erased p ps))
count_erased_same p [] h = absurd (omega arith)
count_erased_same p (q ∷ ps) h =
    ⊎_elim
    (λ e. subst (λ x. count_of p (x ∷ ps) ≡ suc (count_of p (erased p (x ∷ ps)))) (sym e) (count_here p ps ∙ ap (λ qs. suc (count_of p qs)) (sym (erased_here p ps))))
    (λ ne.
    count_there p q ps ne
    ∙ count_erased_same p ps (subst (λ n. 0 < n) (count_there p q ps ne) h)
    ∙ ap suc (sym (ap (λ qs. count_of p qs) (erased_there p q ps ne) ∙ count_there p q (erased p ps) ne)))
    (cases_eq q p)

count_cons : (r q : ℕ) (xs ys : List ℕ) → count_of r xs ≡ count_of r ys → count_of r (q ∷ xs) ≡ count_of r (q ∷ ys)
count_cons r q xs ys e = ap (λ n. cond (eqb q r) (suc n) n) e

-- the counts of other processors stay
pub count_erased_other : (p r : ℕ) (ps : List ℕ) → (p ≡ r → ⊥) → count_of r (erased p ps) ≡ count_of r ps
count_erased_other p r [] ne = refl
count_erased_other p r (q ∷ ps) ne =
    ⊎_elim
    (λ e. subst (λ x. count_of r (erased p (x ∷ ps)) ≡ count_of r (x ∷ ps)) (sym e) (ap (λ qs. count_of r qs) (erased_here p ps) ∙ sym (count_there r p ps ne)))
    (λ nq. ap (λ qs. count_of r qs) (erased_there p q ps nq) ∙ count_cons r q (erased p ps) ps (count_erased_other p r ps ne))
    (cases_eq q p)

module _ {L : Type 0} (net : Network L) where
  -- the events of a processor whose step is the first
  pub events_here : (s : State L) (p : ℕ) (ps : List ℕ)
      → events_of net s (p ∷ ps) p ≡ event_of net s p ∷ events_of net (step net s p) ps p
  events_here s p ps = rw (eq-eqb p p refl)

  -- the same, where it is only known to be equal
  pub events_at : (s : State L) (p r : ℕ) (ps : List ℕ) → p ≡ r
      → events_of net s (p ∷ ps) r ≡ event_of net s p ∷ events_of net (step net s p) ps r
  events_at s p r ps e = rw (eq-eqb p r e)

  -- another processor's step adds no event
  pub events_there : (s : State L) (p r : ℕ) (ps : List ℕ) → (p ≡ r → ⊥)
      → events_of net s (p ∷ ps) r ≡ events_of net (step net s p) ps r
  events_there s p r ps ne = rw (ne_eqb p r ne)

  -- each step has one event
  pub length-events_of : (s : State L) (ps : List ℕ) (r : ℕ) → length (events_of net s ps r) ≡ count_of r ps
  length-events_of s [] r = refl
  length-events_of s (p ∷ ps) r =
      ⊎_elim
      (λ e. subst (λ x. length (events_of net s (p ∷ ps) x) ≡ count_of x (p ∷ ps)) e (ap length (events_here s p ps) ∙ ap suc (length-events_of (step net s p) ps p) ∙ sym (count_here p ps)))
      (λ ne. ap length (events_there s p r ps ne) ∙ length-events_of (step net s p) ps r ∙ sym (count_there r p ps ne))
      (cases_eq p r)
