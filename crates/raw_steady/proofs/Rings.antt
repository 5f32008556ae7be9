-- Waits that have no end come round, and last for ever.
use Rattle.std.proofs.Common.{◌≡◌, ℕ, zero, suc, ◌-◌, ◌<◌, Bool, true, false, cond, eqb, List, length, get_or, Option, Some, None, refl, sym, ap, ◌∙◌, subst, ⊎_elim, ◌⊎◌, inl, inr, arith}
use Rattle.std.specs.Prelude.{slice_get}
use Rattle.std.specs.List.{IsDistinct}
use Rattle.std.proofs.lemmas.Bool.{cases_Bool, cases_eq, eqb-true}
use Rattle.std.proofs.lemmas.Option.{slice_get-get_or, slice_get_within, get_or_from_slice_get, same_Some}
use Rattle.std.proofs.lemmas.Map.Keys.{IsDistinct-from_apart}
use Rattle.raw_cycle.specs.Chains.{walk, stretch}
use Rattle.raw_cycle.proofs.Walks.{walk_none, walk_parts, slice_stretch, full_stretch}
use Rattle.raw_cycle.proofs.Rounds.{pigeon}
use Rattle.raw_grid.specs.Topology.{proc_count}
use Rattle.raw_grid.specs.Wires.{wires_of, producer_of, consumer_of}
use Rattle.raw_grid.proofs.WireLaws.{consumer_few, producer_few}
use Rattle.raw_model.specs.Program.{ProgramSet, IsSet}
use Rattle.raw_serial.specs.declared.turn.Turn.{Turn}
use Rattle.raw_serial.specs.declared.turn.Turn.TheVariants.{Fired, Stalled, Stopped, Waits}
use Rattle.raw_pace.specs.Path.{IsNever, AreNever, next_turn, far_end}
use Rattle.raw_pace.proofs.Waiting.{law_are_never}
use Rattle.raw_clock.specs.Clock.{clocked, first_clock, clock, turn_in}
use Rattle.raw_clock.specs.Tally.{WaitsThere}
use Rattle.raw_clock.proofs.Clocking.{clock_wired}
use Rattle.raw_clock.proofs.Tallying.{at_ends, waits_there}
use Rattle.raw_steady.specs.Steady.{root_at, root, wait_on, waits_in_cycle, ComesRound, EachRingIsNever}
use Rattle.raw_steady.proofs.Roots.{wire_in, need, next, go_on}

none_some : (w : ℕ) → None ≡ Some w → ⊥
none_some w e = cc e

some_none : (w : ℕ) → Some w ≡ None → ⊥
some_none w e = cc e

-- a number below n that passes, or none does
search : (f : ℕ → Bool) (n : ℕ) → ((i : ℕ) → i < n → f i ≡ false) ⊎ ((i : ℕ) × (i < n) × (f i ≡ true))
search f zero = inl (λ i less. absurd (omega (arith, less)))
search f (suc n) =
    ⊎_elim
    (λ (none : (i : ℕ) → i < n → f i ≡ false).
    ⊎_elim
    (λ (on : f n ≡ true). inr (n, omega arith, on))
    (λ (off : f n ≡ false).
    inl (λ i less.
    ⊎_elim
    (λ (here : i ≡ n). ap f here ∙ off)
    (λ (ne : i ≡ n → ⊥). none i (omega (arith, less, ne)))
    (cases_eq i n)))
    (cases_Bool (f n)))
    (λ (found : (i : ℕ) × (i < n) × (f i ≡ true)). let less = found.1 in inr (found.0, omega (arith, less), found.2))
    (search f n)

-- two places below m where a list has the same number
record HasTwice (xs : List ℕ) (m : ℕ) : Type 0 where
  pub i : ℕ
  pub j : ℕ
  pub before : i < j
  pub below : j < m
  pub same : eqb (get_or xs i 0) (get_or xs j 0) ≡ true

twice : (xs : List ℕ) (m : ℕ) → ((i j : ℕ) → i < j → j < m → eqb (get_or xs i 0) (get_or xs j 0) ≡ false) ⊎ HasTwice xs m
twice xs zero = inl (λ i j less below. absurd (omega (arith, below)))
twice xs (suc m) =
    ⊎_elim
    (λ (none : (i j : ℕ) → i < j → j < m → eqb (get_or xs i 0) (get_or xs j 0) ≡ false).
    ⊎_elim
    (λ (apart : (i : ℕ) → i < m → eqb (get_or xs i 0) (get_or xs m 0) ≡ false).
    inl (λ i j less below.
    ⊎_elim
    (λ (here : m ≡ j). subst (λ k. eqb (get_or xs i 0) (get_or xs k 0) ≡ false) here (apart i (omega (arith, less, here))))
    (λ (ne : m ≡ j → ⊥). none i j less (omega (arith, below, ne)))
    (cases_eq m j)))
    (λ (found : (i : ℕ) × (i < m) × (eqb (get_or xs i 0) (get_or xs m 0) ≡ true)).
    inr (record { i = found.0; j = m; before = found.1; below = omega arith; same = found.2 }))
    (search (λ i. eqb (get_or xs i 0) (get_or xs m 0)) m))
    (λ (found : HasTwice xs m). let below = found.below in inr (record { i = found.i; j = found.j; before = found.before; below = omega (arith, below); same = found.same }))
    (twice xs m)

-- more numbers below n than n: one is there twice
too_many : (xs : List ℕ) (n : ℕ) → ((k q : ℕ) → slice_get xs k ≡ Some q → q < n) → n < length xs → HasTwice xs (length xs)
too_many xs n small long =
    ⊎_elim
    (λ (apart : (i j : ℕ) → i < j → j < length xs → eqb (get_or xs i 0) (get_or xs j 0) ≡ false).
    let distinct : IsDistinct eqb xs =
    IsDistinct-from_apart eqb xs (λ i j d less below.
    let at : (k : ℕ) → k < length xs → get_or xs k d ≡ get_or xs k 0 = λ k there. sym (get_or_from_slice_get xs k (get_or xs k d) 0 (slice_get-get_or xs k d there)) in
    ap (λ x. eqb x (get_or xs j d)) (at i (omega (arith, less, below))) ∙ ap (λ x. eqb (get_or xs i 0) x) (at j below) ∙ apart i j less below) in
    absurd (omega (arith, pigeon xs n distinct small, long)))
    (λ (found : HasTwice xs (length xs)). found)
    (twice xs (length xs))

module _ (set : ProgramSet) (valid : IsSet set) (k : ℕ) where
  abbrev on : ℕ → Option ℕ
  on = waits_in_cycle set (clock set k)

  abbrev far : ℕ → ℕ → ℕ
  far p w = far_end (producer_of set.topo) (consumer_of set.topo) p w

  -- who waits does so for a processor that is there
  on_below : (p q : ℕ) → p < proc_count set.topo → on p ≡ Some q → q < proc_count set.topo
  on_below p q below is = by_turn (turn_in set (clock set k) p) (waits_there set valid p (turn_in set (clock set k) p) (at_ends set valid k p below (turn_in set (clock set k) p) refl)) is
    where
      either : (b : Bool) (w : ℕ) → w < length (wires_of set.topo) → cond b (producer_of set.topo w) (consumer_of set.topo w) < proc_count set.topo
      either true w there = producer_few set.topo w valid.topology there
      either false w there = consumer_few set.topo w valid.topology there

      by_turn : (t : Turn) → WaitsThere set.topo t → wait_on set p t ≡ Some q → q < proc_count set.topo
      by_turn (Waits w) there is =
          subst (λ r. r < proc_count set.topo) (same_Some (far p w.0) q is) (either (eqb (consumer_of set.topo w.0) p) w.0 there)
      by_turn Fired there is = absurd (none_some q is)
      by_turn Stalled there is = absurd (none_some q is)
      by_turn Stopped there is = absurd (none_some q is)

  all_below : (m p q : ℕ) → p < proc_count set.topo → walk on m (Some p) ≡ Some q → q < proc_count set.topo
  all_below zero p q below is = subst (λ r. r < proc_count set.topo) (same_Some p q is) below
  all_below (suc m) p q below is = by_next (on p) refl is (λ r f e. all_below m r q (on_below p r below f) e)
    where
      by_next : (o : Option ℕ) → on p ≡ o → walk on m o ≡ Some q → ((r : ℕ) → on p ≡ Some r → walk on m (Some r) ≡ Some q → q < proc_count set.topo) → q < proc_count set.topo
      by_next None f e more = absurd (none_some q (sym (walk_none on m) ∙ e))
      by_next (Some r) f e more = more r f e

  -- without a root the walk goes on
  goes_on : (n p : ℕ) → root set (clock set k) n p ≡ None → (q : ℕ) × (walk on n (Some p) ≡ Some q)
  goes_on zero p none = (p, refl)
  goes_on (suc n) p none = by_turn (turn_in set (clock set k) p) refl none (λ q e. goes_on n q e)
    where
      by_turn : (t : Turn) → turn_in set (clock set k) p ≡ t → root_at t p (λ w. root set (clock set k) n (far p w)) ≡ None
          → ((q : ℕ) → root set (clock set k) n q ≡ None → (r : ℕ) × (walk on n (Some q) ≡ Some r)) → (r : ℕ) × (walk on n (on p) ≡ Some r)
      by_turn (Waits w) is e more =
          let found = more (far p w.0) e in
          (found.0, ap (λ t. walk on n (wait_on set p t)) is ∙ found.1)
      by_turn Fired is e more = absurd (some_none p e)
      by_turn Stalled is e more = absurd (some_none p e)
      by_turn Stopped is e more = absurd (some_none p e)

  pub comes_round : (p : ℕ) → p < proc_count set.topo → root set (clock set k) (suc (proc_count set.topo)) p ≡ None → ComesRound set (clock set k) p
  comes_round p below none =
      let n = suc (proc_count set.topo) in
      let end = goes_on n p none in
      let xs = stretch on (suc n) (Some p) in
      let long : length xs ≡ suc n = full_stretch on n end.0 (Some p) end.1 in
      let at : (i q : ℕ) → slice_get xs i ≡ Some q → walk on i (Some p) ≡ Some q =
      λ i q here. let there = slice_get_within xs i q here in sym (slice_stretch on (suc n) i (Some p) (omega (arith, there, long))) ∙ here in
      let found = too_many xs (proc_count set.topo) (λ i q here. all_below i p q below (at i q here)) (omega (arith, long)) in
      let before = found.before in
      let late = found.below in
      let x = get_or xs found.i 0 in
      let first : walk on found.i (Some p) ≡ Some x = at found.i x (slice_get-get_or xs found.i 0 (omega (arith, before, late))) in
      let same : get_or xs found.i 0 ≡ get_or xs found.j 0 = eqb-true (get_or xs found.i 0) (get_or xs found.j 0) found.same in
      let again : walk on found.j (Some p) ≡ Some x = at found.j (get_or xs found.j 0) (slice_get-get_or xs found.j 0 late) ∙ ap Some (sym same) in
      let parts = walk_parts on found.i (suc (found.j - found.i - 1)) found.j (Some p) (omega (arith, before)) in
      record {
        first = found.i;
        q = x;
        there = first;
        more = found.j - found.i - 1;
        back = ap (walk on (suc (found.j - found.i - 1))) (sym first) ∙ sym parts ∙ again;
      }

  -- one wait is a need, and so are more
  on_need : (p r : ℕ) → on p ≡ Some r → need set valid k p r
  on_need p r is = by_turn (turn_in set (clock set k) p) refl is
    where
      by_turn : (t : Turn) → turn_in set (clock set k) p ≡ t → wait_on set p t ≡ Some r → need set valid k p r
      by_turn (Waits w) f e = subst (λ q. need set valid k p q) (same_Some (far p w.0) r e) (next set valid k p w.0 (ap wire_in f))
      by_turn Fired f e = absurd (none_some r e)
      by_turn Stalled f e = absurd (none_some r e)
      by_turn Stopped f e = absurd (none_some r e)

  walk_need : (m p q : ℕ) → walk on (suc m) (Some p) ≡ Some q → need set valid k p q
  walk_need zero p q is = on_need p q is
  walk_need (suc m) p q is = by_next (on p) refl is (λ r f e. go_on set valid k p r q (on_need p r f) (walk_need m r q e))
    where
      by_next : (o : Option ℕ) → on p ≡ o → walk on (suc m) o ≡ Some q → ((r : ℕ) → on p ≡ Some r → walk on (suc m) (Some r) ≡ Some q → need set valid k p q) → need set valid k p q
      by_next None f e more = absurd (none_some q (sym (walk_none on (suc m)) ∙ e))
      by_next (Some r) f e more = more r f e

  pub is_never : (p : ℕ) → ComesRound set (clock set k) p → IsNever (clocked set) (first_clock set) (next_turn (clocked set) (first_clock set) k p)
  is_never p round = by_steps round.first round.there
    where
      never : AreNever (clocked set) (first_clock set)
      never = law_are_never (clocked set) (producer_of set.topo) (consumer_of set.topo) (clock_wired set valid) (first_clock set)

      ring : IsNever (clocked set) (first_clock set) (next_turn (clocked set) (first_clock set) k round.q)
      ring = never.itself (next_turn (clocked set) (first_clock set) k round.q) (walk_need round.more round.q round.q round.back)

      by_steps : (n : ℕ) → walk on n (Some p) ≡ Some round.q → IsNever (clocked set) (first_clock set) (next_turn (clocked set) (first_clock set) k p)
      by_steps zero there =
          subst (λ q. IsNever (clocked set) (first_clock set) (next_turn (clocked set) (first_clock set) k q)) (sym (same_Some p round.q there)) ring
      by_steps (suc n) there =
          never.behind (next_turn (clocked set) (first_clock set) k p) (next_turn (clocked set) (first_clock set) k round.q) (walk_need n p round.q there) ring

pub each_ring_is_never : (set : ProgramSet) → IsSet set → EachRingIsNever set
each_ring_is_never set valid = record { round = comes_round set valid; never = is_never set valid }
