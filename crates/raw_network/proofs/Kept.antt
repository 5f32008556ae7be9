-- Local states that fit and values that are fine stay so.
use Rattle.std.proofs.Common.{◌≡◌, ℕ, suc, ◌≤◌, Bool, true, false, cond, ltb, List, [], ◌∷◌, length, get_or, drop, Some, refl, sym, ap, ◌∙◌, subst, ⊎_elim, arith}
use Rattle.std.specs.Prelude.{slice_get}
use Rattle.std.specs.List.{All}
use Rattle.std.proofs.lemmas.List.{length-drop}
use Rattle.std.proofs.lemmas.List.Elements.{All-nil, All-cons, All-head, All-tail, All-append, All-drop}
use Rattle.std.proofs.lemmas.Bool.{cases_eq, not-true}
use Rattle.std.proofs.lemmas.Option.{same_Some}
use Rattle.raw_network.specs.Network.{Network, State, Sent, values_on, count_of, fronts, is_enabled, row_at, step_from, step}
use Rattle.raw_network.specs.Runs.{sent_on}
use Rattle.raw_network.specs.Wired.{IsInvariant}
use Rattle.raw_network.specs.Laws.{AllFit, AreFit, StaysFit}
use Rattle.raw_network.proofs.Wires.{front_taken, count_here, count_there, wire_front_same, wire_front_other, sent_here, sent_there, arrivals, wire_moved, slice_get-set_other, slice_get-set_same}
use Rattle.raw_network.proofs.Diamond.{Ready, ready, moved}

-- as many values are taken as wires are named
pub length-fronts : (ws : List ℕ) (wires : List (List ℕ)) → length (fronts ws wires) ≡ length ws
length-fronts [] wires = refl
length-fronts (w ∷ ws) wires = ap suc (length-fronts ws (front_taken wires w))

-- one front taken leaves fine values
rest_fine : (fine : ℕ → Type 0) (wires : List (List ℕ)) (w v : ℕ) → ((u : ℕ) → All fine (values_on wires u))
    → All fine (values_on (front_taken wires w) v)
rest_fine fine wires w v fines =
    ⊎_elim
    (λ (e : w ≡ v). subst (λ u. All fine (values_on (front_taken wires w) u)) e
    (subst (λ xs. All fine xs) (sym (wire_front_same wires w)) (All-drop fine 1 (values_on wires w) (fines w))))
    (λ (ne : w ≡ v → ⊥). subst (λ xs. All fine xs) (sym (wire_front_other wires w v (drop 1 (values_on wires w)) ne)) (fines v))
    (cases_eq w v)

-- and leaves the values that the others take
rest_there : (ws : List ℕ) (wires : List (List ℕ)) (w : ℕ)
    → ((u : ℕ) → count_of u (w ∷ ws) ≤ length (values_on wires u)) → (v : ℕ)
    → count_of v ws ≤ length (values_on (front_taken wires w) v)
rest_there ws wires w has v =
    ⊎_elim
    (λ (e : w ≡ v). subst (λ u. count_of u ws ≤ length (values_on (front_taken wires w) u)) e
    (let a = has w in let b = count_here w ws in let c = ap length (wire_front_same wires w) in let d = length-drop 1 (values_on wires w) in omega arith))
    (λ (ne : w ≡ v → ⊥). let a = has v in let b = count_there v w ws ne in let c = ap length (wire_front_other wires w v (drop 1 (values_on wires w)) ne) in omega arith)
    (cases_eq w v)

-- the values taken are fine where each wire has as many as are taken
pub fronts_fine : (fine : ℕ → Type 0) (ws : List ℕ) (wires : List (List ℕ))
    → ((w : ℕ) → count_of w ws ≤ length (values_on wires w)) → ((w : ℕ) → All fine (values_on wires w))
    → All fine (fronts ws wires)
fronts_fine fine [] wires has fines = All-nil fine
fronts_fine fine (w ∷ ws) wires has fines =
    All-cons fine (get_or (values_on wires w) 0 0) (fronts ws (front_taken wires w))
    (let a = has w in let b = count_here w ws in fines w 0 0 (omega arith))
    (fronts_fine fine ws (front_taken wires w) (rest_there ws wires w has) (λ v. rest_fine fine wires w v fines))

sent_fine : (fine : ℕ → Type 0) (w : ℕ) (ms : List Sent) → All (λ (m : Sent). fine m.value) ms
    → All fine (sent_on w ms)
sent_fine fine w [] fines = All-nil fine
sent_fine fine w (m ∷ ms) fines =
    ⊎_elim
    (λ (e : m.wire ≡ w). subst (λ xs. All fine xs) (sym (sent_here w m ms e))
    (All-cons fine m.value (sent_on w ms) (All-head (λ (m : Sent). fine m.value) m ms fines) (sent_fine fine w ms (All-tail (λ (m : Sent). fine m.value) m ms fines))))
    (λ (ne : m.wire ≡ w → ⊥). subst (λ xs. All fine xs) (sym (sent_there w m ms ne)) (sent_fine fine w ms (All-tail (λ (m : Sent). fine m.value) m ms fines)))
    (cases_eq m.wire w)

arrivals_fine : (fine : ℕ → Type 0) (n w : ℕ) (ms : List Sent) → All (λ (m : Sent). fine m.value) ms
    → All fine (arrivals n w ms)
arrivals_fine fine n w ms fines = by_test (ltb w n)
  where
    by_test : (b : Bool) → All fine (cond b (sent_on w ms) [])
    by_test true = sent_fine fine w ms fines
    by_test false = All-nil fine

module _ {L : Type 0} (net : Network L) (fit : ℕ → L → Type 0) (fine : ℕ → Type 0) (kept : IsInvariant net fit fine) where
  module _ (s : State L) (p : ℕ) (l : L) (r : Ready net s p l) (fits : AreFit fit fine s) where
    going : net.is_stopped p l ≡ false
    going = not-true (net.is_stopped p l) r.going

    given : All fine (fronts (net.takes p l) s.wires)
    given = fronts_fine fine (net.takes p l) s.wires r.has fits.values

    locals_moved : AllFit fit (moved net s p l)
    locals_moved q m e = ⊎_elim here there (cases_eq q p)
      where
        here : q ≡ p → fit q m
        here f =
            let same : (row_at net p l s.wires).next ≡ m =
            same_Some (row_at net p l s.wires).next m
            (sym (slice_get-set_same s.locals p (row_at net p l s.wires).next l r.here) ∙ subst (λ x. slice_get (moved net s p l).locals x ≡ Some m) f e) in
            subst (λ x. fit x m) (sym f)
            (subst (λ x. fit p x) same (kept.next p l (fronts (net.takes p l) s.wires) (fits.locals p l r.here) going (length-fronts (net.takes p l) s.wires) given))

        there : (q ≡ p → ⊥) → fit q m
        there ne = fits.locals q m (sym (slice_get-set_other s.locals p q (row_at net p l s.wires).next ne) ∙ e)

    values_moved : (w : ℕ) → All fine (values_on (moved net s p l).wires w)
    values_moved w =
        let sent = (row_at net p l s.wires).sent in
        subst (λ xs. All fine xs) (sym (wire_moved (net.takes p l) sent s.wires w))
        (All-append fine (drop (count_of w (net.takes p l)) (values_on s.wires w)) (arrivals (length s.wires) w sent)
        (All-drop fine (count_of w (net.takes p l)) (values_on s.wires w) (fits.values w))
        (arrivals_fine fine (length s.wires) w sent (kept.sent p l (fronts (net.takes p l) s.wires) (fits.locals p l r.here) going (length-fronts (net.takes p l) s.wires) given)))

    fit_moved : AreFit fit fine (moved net s p l)
    fit_moved = record { locals = locals_moved; values = values_moved }

  -- one step keeps local states fit and values fine
  pub fit_after : (s : State L) (p : ℕ) → is_enabled net s p ≡ true → AreFit fit fine s
      → AreFit fit fine (step net s p)
  fit_after s p e fits =
      let (l, r) = ready net s p e in
      subst (λ t. AreFit fit fine t) (sym (ap (λ o. step_from net s p o) r.here)) (fit_moved s p l r fits)

  -- and so does each lawful list
  pub law_stays_fit : StaysFit net fit fine
  law_stays_fit s [] fits h = fits
  law_stays_fit s (p ∷ ps) fits h = law_stays_fit (step net s p) ps (fit_after s p h.0 fits) h.1
