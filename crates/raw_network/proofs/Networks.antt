-- The laws of every network that is wired.
use Rattle.std.proofs.Common.{◌≡◌, ℕ, zero, suc, ◌<◌, ◌≤◌, Bool, true, false, cond, eqb, List, [], ◌∷◌, ◌++◌, take, Option, refl, sym, ap, ◌∙◌, subst, ⊎_elim, arith}
use Rattle.std.specs.Prelude.{slice_get}
use Rattle.std.specs.List.{flat_map, filter_map}
use Rattle.std.specs.Option.{option_and_then}
use Rattle.std.proofs.lemmas.Bool.{cases_eq}
use Rattle.raw_network.specs.Network.{Network, State, Event, count_of}
use Rattle.raw_network.specs.Runs.{IsLawful, events_of, sent_on, kth, passed}
use Rattle.raw_network.specs.Wired.{IsWired}
use Rattle.raw_network.specs.Laws.{StillEnabled, SameState, SameEvents, ComesToRest, AtMostAsOften, SameSteps, PassedPrefix, AreSameRest, SameRest, SameEnd, SomeIsBeyond, NextIsEnabled}
use Rattle.raw_network.proofs.Wires.{count_here, count_there}
use Rattle.raw_network.proofs.Erased.{erased, count_erased_same, count_erased_other}
use Rattle.raw_network.proofs.Diamond.{still_enabled, same_event, steps_commute}
use Rattle.raw_network.proofs.SameRest.{same_first, beyond_enabled, no_more_steps, same_ends, same_events, passed_by, passed_front}

get_of_take : {X : Type 0} (i : ℕ) (xs : List X) → slice_get (take (suc i) xs) i ≡ slice_get xs i
get_of_take i [] = refl
get_of_take zero (x ∷ xs) = refl
get_of_take (suc i) (x ∷ xs) = get_of_take i xs

-- an entry that is one more than all of g is not before the last of g
count_last : (p : ℕ) (xs : List ℕ) → count_of p (xs ++ p ∷ []) ≡ suc (count_of p xs)
count_last p [] = count_here p []
count_last p (x ∷ xs) =
    ap (λ n. cond (eqb x p) (suc n) n) (count_last p xs) ∙ cond_suc (eqb x p) (count_of p xs)
  where
    cond_suc : (b : Bool) (n : ℕ) → cond b (suc (suc n)) (suc n) ≡ suc (cond b (suc n) n)
    cond_suc true n = refl
    cond_suc false n = refl

beyond_before : (p : ℕ) (front g : List ℕ) → count_of p g < count_of p (front ++ p ∷ [])
    → count_of p g ≤ count_of p front
beyond_before p front g beyond = let e = count_last p front in omega arith

-- what one entry in front changes
module _ (x : ℕ) (g : List ℕ) (some : 0 < count_of x g) where
  before_more : (front : List ℕ) → ((r : ℕ) → count_of r front ≤ count_of r (erased x g)) → (r : ℕ)
      → count_of r (x ∷ front) ≤ count_of r g
  before_more front before r =
      ⊎_elim
      (λ (e : x ≡ r). subst (λ y. count_of y (x ∷ front) ≤ count_of y g) e
      (let a = count_here x front in let b = count_erased_same x g some in let c = before x in omega arith))
      (λ (ne : x ≡ r → ⊥). let a = count_there r x front ne in let b = count_erased_other x r g ne in let c = before r in omega arith)
      (cases_eq x r)

  beyond_more : (front : List ℕ) (q : ℕ) → count_of q (erased x g) < count_of q (front ++ q ∷ [])
      → count_of q g < count_of q (x ∷ (front ++ q ∷ []))
  beyond_more front q beyond =
      ⊎_elim
      (λ (e : x ≡ q).
      let c : count_of x (erased x g) < count_of x (front ++ q ∷ []) =
      subst (λ y. count_of y (erased x g) < count_of y (front ++ q ∷ [])) (sym e) beyond in
      subst (λ y. count_of y g < count_of y (x ∷ (front ++ q ∷ []))) e
      (let a = count_here x (front ++ q ∷ []) in let b = count_erased_same x g some in omega arith))
      (λ (ne : x ≡ q → ⊥). let a = count_there q x (front ++ q ∷ []) ne in let b = count_erased_other x q g ne in omega arith)
      (cases_eq x q)

-- where some processor has more steps in h than in g, some entry of h is the first that goes beyond g
pub law_some_is_beyond : (h g : List ℕ) → SomeIsBeyond h g
law_some_is_beyond [] g p more = absurd (omega arith)
law_some_is_beyond (x ∷ h) g p more =
    ⊎_elim
    (λ (none : count_of x g ≡ 0). ([], x, h, record { whole = refl; beyond = let n = count_here x [] in omega arith; before = λ r. omega arith }))
    (λ (some' : count_of x g ≡ 0 → ⊥).
    let some : 0 < count_of x g = omega arith in
    let (front, q, rest, first) = law_some_is_beyond h (erased x g) p (fewer some) in
    (x ∷ front, q, rest, record { whole = ap (λ xs. x ∷ xs) first.whole; beyond = beyond_more x g some front q first.beyond; before = before_more x g some front first.before }))
    (cases_eq (count_of x g) 0)
  where
    fewer : 0 < count_of x g → count_of p (erased x g) < count_of p h
    fewer some =
        ⊎_elim
        (λ (e : x ≡ p).
        let a : count_of p (x ∷ h) ≡ suc (count_of p h) = subst (λ y. count_of y (x ∷ h) ≡ suc (count_of y h)) e (count_here x h) in
        let b : count_of p g ≡ suc (count_of p (erased x g)) =
        subst (λ y. count_of y g ≡ suc (count_of y (erased x g))) e (count_erased_same x g some) in
        omega arith)
        (λ (ne : x ≡ p → ⊥). let a = count_there p x h ne in let b = count_erased_other x p g ne in omega arith)
        (cases_eq x p)

module _ {L : Type 0} (net : Network L) (producer consumer : ℕ → ℕ) (wired : IsWired net producer consumer) where
  -- the diamond
  pub law_still_enabled : StillEnabled net
  law_still_enabled s p q both = (
    still_enabled net producer consumer wired s q p (λ e. both.differ (sym e)) both.second both.first,
    still_enabled net producer consumer wired s p q both.differ both.first both.second,
  )

  -- both orders lead to the same state
  pub law_same_state : SameState net
  law_same_state s p q both = steps_commute net producer consumer wired s p q both.differ both.first both.second

  -- each step does the same in both orders
  pub law_same_events : SameEvents net
  law_same_events s p q both = (
    same_event net producer consumer wired s q p (λ e. both.differ (sym e)) both.second both.first,
    same_event net producer consumer wired s p q both.differ both.first both.second,
  )

  -- (a)
  pub law_at_most_as_often : AtMostAsOften net
  law_at_most_as_often s h g rest lawful p = no_more_steps net producer consumer wired s g h lawful rest.lawful rest.quiet p

  -- (b)
  same_step : (s : State L) (h g : List ℕ) → IsLawful net s h → IsLawful net s g → (p i : ℕ) → i < count_of p h
      → i < count_of p g
      → slice_get (events_of net s g p) i ≡ slice_get (events_of net s h p) i
  same_step s h g lh lg p i a b =
      sym (get_of_take i (events_of net s g p))
      ∙ ap (λ es. slice_get es i) (same_first net producer consumer wired s g h lg lh p (suc i) b a)
      ∙ get_of_take i (events_of net s h p)

  same_kth : (s : State L) (h g : List ℕ) → IsLawful net s h → IsLawful net s g → (p k : ℕ) → k ≤ count_of p h
      → k ≤ count_of p g
      → kth net s g p k ≡ kth net s h p k
  same_kth s h g lh lg p zero a b = refl
  same_kth s h g lh lg p (suc i) a b =
      ap (λ (o : Option (Event L)). option_and_then (λ (e : Event L). e.after) o) (same_step s h g lh lg p i a b)

  -- k-th local states and events agree
  pub law_same_steps : SameSteps net
  law_same_steps s h g lh lg p = record { locals = same_kth s h g lh lg p; events = same_step s h g lh lg p }

  -- (c)
  pub law_prefix : PassedPrefix net
  law_prefix s h g rest lawful w = passed_front net producer consumer wired s g h lawful rest.lawful rest.quiet w

  -- (d)
  module _ (s : State L) (h g : List ℕ) (rest_h : ComesToRest net s h) (rest_g : ComesToRest net s g) where
    equal_counts : (p : ℕ) → count_of p g ≡ count_of p h
    equal_counts p =
        let a = law_at_most_as_often s h g rest_h rest_g.lawful p in
        let b = law_at_most_as_often s g h rest_g rest_h.lawful p in
        omega arith

    events_alike : (p : ℕ) → events_of net s g p ≡ events_of net s h p
    events_alike p = same_events net producer consumer wired s g h rest_g.lawful rest_h.lawful p (equal_counts p)

    passed_alike : (w : ℕ) → passed net s g w ≡ passed net s h w
    passed_alike w =
        passed_by net producer consumer wired s g w
        ∙ ap (λ es. flat_map (λ (e : Event L). sent_on w e.sent) es) (events_alike (producer w))
        ∙ sym (passed_by net producer consumer wired s h w)

    are_same_rest : AreSameRest net s h g
    are_same_rest =
        record {
          ends = same_ends net producer consumer wired s g h rest_g.lawful rest_h.lawful equal_counts;
          passed_on = passed_alike;
          touched_by = λ p. ap (λ es. filter_map (λ (e : Event L). e.touched) es) (events_alike p);
        }

  -- ends, values passed and touches agree
  pub law_same_rest : SameRest net
  law_same_rest s h g rest_h rest_g = are_same_rest s h g rest_h rest_g

  -- (e)
  pub law_same_end : SameEnd net
  law_same_end s h g lh lg counts = same_ends net producer consumer wired s g h lg lh counts

  -- (f)
  pub law_next_is_enabled : NextIsEnabled net
  law_next_is_enabled s h g front p rest lh lg first =
      beyond_enabled net producer consumer wired s front p rest g
      (subst (λ xs. IsLawful net s xs) first.whole lh) lg first.before (beyond_before p front g first.beyond)
