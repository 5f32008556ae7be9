-- What a list of steps says of the local states of one processor.
use Rattle.std.proofs.Common.{◌≡◌, ℕ, zero, suc, true, List, [], ◌∷◌, ◌++◌, Option, Some, None, refl, sym, ap, ◌∙◌, subst, ⊎_elim}
use Rattle.std.specs.Prelude.{slice_get}
use Rattle.std.specs.Option.{option_and_then}
use Rattle.std.proofs.lemmas.Bool.{cases_eq}
use Rattle.raw_network.specs.Network.{Network, State, Event, count_of, is_enabled, row_at, step_from, step, event_from, event_of}
use Rattle.raw_network.specs.Runs.{IsLawful, end_of, events, kth}
use Rattle.raw_network.specs.Laws.{OneAfterAnother}
use Rattle.raw_network.proofs.Steps.{end_of-append, lawful-append, events_of-append}
use Rattle.raw_network.proofs.Wires.{count_here, count_there, slice_get-set_other, slice_get-set_same}
use Rattle.raw_network.proofs.Diamond.{ready}
use Rattle.raw_network.proofs.Erased.{events_here, events_there}

module _ {L : Type 0} (net : Network L) where
  -- a lawful list is lawful up to each place, and from there on
  pub lawful_front : (s : State L) (ps qs : List ℕ) → IsLawful net s (ps ++ qs) → IsLawful net s ps
  lawful_front s [] qs h = tt
  lawful_front s (p ∷ ps) qs h = (h.0, lawful_front (step net s p) ps qs h.1)

  -- the rest of a lawful list is lawful
  pub lawful_back : (s : State L) (ps qs : List ℕ) → IsLawful net s (ps ++ qs) → IsLawful net (end_of net s ps) qs
  lawful_back s [] qs h = h
  lawful_back s (p ∷ ps) qs h = lawful_back (step net s p) ps qs h.1

  -- what one list of steps after another did
  pub events-append : (s : State L) (ps qs : List ℕ)
      → events net s (ps ++ qs) ≡ events net s ps ++ events net (end_of net s ps) qs
  events-append s [] qs = refl
  events-append s (p ∷ ps) qs = ap (λ es. event_of net s p ∷ es) (events-append (step net s p) ps qs)

  pub in_turn : OneAfterAnother net
  in_turn s front rest = record {
    lawful = (
      λ whole. (lawful_front s front rest whole, lawful_back s front rest whole),
      λ both. lawful-append net s front rest both.0 both.1,
    );
    ends = end_of-append net s front rest;
    did = events-append s front rest;
    did_by = events_of-append net s front rest;
  }

  -- a step changes no other local state
  pub local_other : (s : State L) (q p : ℕ) → (p ≡ q → ⊥) → slice_get (step net s q).locals p ≡ slice_get s.locals p
  local_other s q p ne = from (slice_get s.locals q)
    where
      from : (o : Option L) → slice_get (step_from net s q o).locals p ≡ slice_get s.locals p
      from None = refl
      from (Some l) = slice_get-set_other s.locals q p (row_at net q l s.wires).next ne

  -- an event tells the local state right after its step
  pub after_is : (s : State L) (p : ℕ) (l : L) → slice_get s.locals p ≡ Some l
      → (event_of net s p).after ≡ slice_get (step net s p).locals p
  after_is s p l e =
      ap (λ o. (event_from net s.wires p o).after) e
      ∙ sym (slice_get-set_same s.locals p (row_at net p l s.wires).next l e)
      ∙ ap (λ o. slice_get (step_from net s p o).locals p) (sym e)

  kth_here : (s : State L) (p : ℕ) (ps : List ℕ) (l : L) → slice_get s.locals p ≡ Some l → (k : ℕ)
      → kth net s (p ∷ ps) p (suc k) ≡ kth net (step net s p) ps p k
  kth_here s p ps l e zero =
      ap (λ es. option_and_then (λ (e : Event L). e.after) (slice_get es zero)) (events_here net s p ps)
      ∙ after_is s p l e
  kth_here s p ps l e (suc k) =
      ap (λ es. option_and_then (λ (e : Event L). e.after) (slice_get es (suc k))) (events_here net s p ps)

  kth_there : (s : State L) (q p : ℕ) (ps : List ℕ) → (q ≡ p → ⊥) → (k : ℕ)
      → kth net s (q ∷ ps) p k ≡ kth net (step net s q) ps p k
  kth_there s q p ps ne zero = sym (local_other s q p (λ e. ne (sym e)))
  kth_there s q p ps ne (suc k) =
      ap (λ es. option_and_then (λ (e : Event L). e.after) (slice_get es k)) (events_there net s q p ps ne)

  -- an enabled processor has a local state
  some_local : (s : State L) (p : ℕ) → is_enabled net s p ≡ true → (l : L) × (slice_get s.locals p ≡ Some l)
  some_local s p e = let (l, r) = ready net s p e in (l, r.here)

  -- the k-th local state is the local state after the steps of a front that has k steps of the processor
  pub kth_at : (s : State L) (ps qs : List ℕ) (p : ℕ) → IsLawful net s (ps ++ qs)
      → kth net s (ps ++ qs) p (count_of p ps) ≡ slice_get (end_of net s ps).locals p
  kth_at s [] qs p h = refl
  kth_at s (q ∷ ps) qs p h =
      ⊎_elim
      (λ e.
      let (l, here) = some_local s p (subst (λ x. is_enabled net s x ≡ true) e h.0) in
      subst (λ x. kth net s (x ∷ (ps ++ qs)) p (count_of p (x ∷ ps)) ≡ slice_get (end_of net (step net s x) ps).locals p) (sym e)
      (ap (λ k. kth net s (p ∷ (ps ++ qs)) p k) (count_here p ps)
      ∙ kth_here s p (ps ++ qs) l here (count_of p ps)
      ∙ kth_at (step net s p) ps qs p (subst (λ x. IsLawful net (step net s x) (ps ++ qs)) e h.1)))
      (λ ne.
      ap (λ k. kth net s (q ∷ (ps ++ qs)) p k) (count_there p q ps ne)
      ∙ kth_there s q p (ps ++ qs) ne (count_of p ps)
      ∙ kth_at (step net s q) ps qs p h.1)
      (cases_eq q p)
