-- Cycles are lawful, rest where nothing is enabled, and no schedule is sooner.
use Rattle.std.proofs.Common.{◌≡◌, ℕ, zero, suc, ◌+◌, ◌<◌, ◌≤◌, Bool, true, false, cond, List, [], ◌∷◌, ◌++◌, length, refl, sym, ap, ◌∙◌, subst, ⊎_elim, inl, inr, ◌⊎◌, arith}
use Rattle.std.specs.List.{filter, flat_map, range_with_len}
use Rattle.std.proofs.lemmas.List.{append-nil, append_assoc}
use Rattle.std.proofs.lemmas.Bool.{cases_Bool, cases_eq, cases_lt, false≢true, false_from_ne_true}
use Rattle.std.proofs.lemmas.Option.{slice_get_past}
use Rattle.raw_network.specs.Network.{Network, State, Event, count_of, is_ready, is_enabled, step}
use Rattle.raw_network.specs.Runs.{IsLawful, end_of, events_of, sent_on, passed, IsQuiet}
use Rattle.raw_network.specs.Wired.{IsWired, IsBounded}
use Rattle.raw_network.specs.Laws.{total}
use Rattle.raw_lockstep.specs.Lockstep.{all_enabled, cycles, after_cycles, IsRound, IsSchedule, first_rounds, AnyOrder, CycleIsRound, CyclesAreLawful, EmptyIsQuiet, CyclesRest, AtMostOnce, NoneSooner, NoneRestsSooner}
use Rattle.raw_network.proofs.Wires.{count_here, count_there}
use Rattle.raw_network.proofs.Steps.{end_of-append, lawful-append, lawful-push}
use Rattle.raw_network.proofs.Kth.{lawful_back}
use Rattle.raw_network.proofs.Diamond.{still_enabled}
use Rattle.raw_network.proofs.SameRest.{beyond_enabled, same_ends, same_events, passed_by, no_more_steps}
use Rattle.raw_network.proofs.Rests.{enabled_or_quiet}
use Rattle.raw_network.proofs.Bounds.{law_no_longer}

-- counts in one list after another
pub count-append : (p : ℕ) (xs ys : List ℕ) → count_of p (xs ++ ys) ≡ count_of p xs + count_of p ys
count-append p [] ys = omega arith
count-append p (x ∷ xs) ys =
    ⊎_elim
    (λ (e : x ≡ p). subst (λ y. count_of p (y ∷ (xs ++ ys)) ≡ count_of p (y ∷ xs) + count_of p ys) (sym e)
    (omega (arith, count-append p xs ys, count_here p (xs ++ ys), count_here p xs)))
    (λ (ne : x ≡ p → ⊥). omega (arith, count-append p xs ys, count_there p x (xs ++ ys) ne, count_there p x xs ne))
    (cases_eq x p)

-- a list without entries of any processor is empty
no_counts : (xs : List ℕ) → ((p : ℕ) → count_of p xs ≡ 0) → xs ≡ []
no_counts [] none = refl
no_counts (x ∷ xs) none = absurd (omega (arith, none x, count_here x xs))

module _ (f : ℕ → Bool) where
  -- what stands in a filtered range passes the test
  pub filtered_passes : (p : ℕ) (xs : List ℕ) → 0 < count_of p (filter f xs) → f p ≡ true
  filtered_passes p [] some = absurd (omega arith)
  filtered_passes p (x ∷ xs) some = by_test (f x) refl some (λ later. filtered_passes p xs later)
    where
      by_test : (b : Bool) → f x ≡ b → 0 < count_of p (cond b (x ∷ filter f xs) (filter f xs))
          → (0 < count_of p (filter f xs) → f p ≡ true) → f p ≡ true
      by_test true e some rest =
          ⊎_elim
          (λ (same : x ≡ p). subst (λ y. f y ≡ true) same e)
          (λ (ne : x ≡ p → ⊥). rest (subst (λ n. 0 < n) (count_there p x (filter f xs) ne) some))
          (cases_eq x p)
      by_test false e some rest = rest some

  count_filtered_other : (p x : ℕ) (xs : List ℕ) → (x ≡ p → ⊥) → count_of p (filter f (x ∷ xs)) ≡ count_of p (filter f xs)
  count_filtered_other p x xs ne = by_test (f x)
    where
      by_test : (b : Bool) → count_of p (cond b (x ∷ filter f xs) (filter f xs)) ≡ count_of p (filter f xs)
      by_test true = count_there p x (filter f xs) ne
      by_test false = refl

  count_filtered_here : (x : ℕ) (xs : List ℕ) → f x ≡ true → count_of x (filter f (x ∷ xs)) ≡ suc (count_of x (filter f xs))
  count_filtered_here x xs e = ap (λ b. count_of x (cond b (x ∷ filter f xs) (filter f xs))) e ∙ count_here x (filter f xs)

  count_filtered_le : (x : ℕ) (xs : List ℕ) → count_of x (filter f (x ∷ xs)) ≤ suc (count_of x (filter f xs))
  count_filtered_le x xs = by_test (f x)
    where
      by_test : (b : Bool) → count_of x (cond b (x ∷ filter f xs) (filter f xs)) ≤ suc (count_of x (filter f xs))
      by_test true = omega (arith, count_here x (filter f xs))
      by_test false = omega arith

  -- a range has nothing below its start
  pub none_below : (a n p : ℕ) → p < a → count_of p (filter f (range_with_len a n)) ≡ 0
  none_below a zero p below = refl
  none_below a (suc n) p below =
      count_filtered_other p a (range_with_len (a + 1) n) (λ e. absurd (omega arith)) ∙ none_below (a + 1) n p (omega arith)

  -- each number stands in a filtered range once at most,
  pub once_at_most : (a n p : ℕ) → count_of p (filter f (range_with_len a n)) ≤ 1
  once_at_most a zero p = omega arith
  once_at_most a (suc n) p =
      ⊎_elim
      (λ (e : a ≡ p). subst (λ x. count_of x (filter f (range_with_len a (suc n))) ≤ 1) e
      (omega (arith, count_filtered_le a (range_with_len (a + 1) n), none_below (a + 1) n a (omega arith))))
      (λ (ne : a ≡ p → ⊥). omega (arith, count_filtered_other p a (range_with_len (a + 1) n) ne, once_at_most (a + 1) n p))
      (cases_eq a p)

  -- and once where it is within and passes the test
  pub once_within : (a n p : ℕ) → a ≤ p → p < a + n → f p ≡ true → count_of p (filter f (range_with_len a n)) ≡ 1
  once_within a zero p low high e = absurd (omega arith)
  once_within a (suc n) p low high e =
      ⊎_elim
      (λ (same : a ≡ p). subst (λ x. count_of x (filter f (range_with_len a (suc n))) ≡ 1) same
      (omega (arith, count_filtered_here a (range_with_len (a + 1) n) (subst (λ x. f x ≡ true) (sym same) e), none_below (a + 1) n a (omega arith))))
      (λ (ne : a ≡ p → ⊥). count_filtered_other p a (range_with_len (a + 1) n) ne ∙ once_within (a + 1) n p (omega arith) (omega arith) e)
      (cases_eq a p)

-- how often a number stands in a filtered range
pub count_filtered : (f : ℕ → Bool) (n p : ℕ) → p < n → count_of p (filter f (range_with_len 0 n)) ≡ cond (f p) 1 0
count_filtered f n p below =
    ⊎_elim
    (λ (on : f p ≡ true). once_within f 0 n p (omega arith) (omega arith) on ∙ sym (ap (λ b. cond b 1 0) on))
    (λ (off : f p ≡ false).
    ⊎_elim
    (λ (z : count_of p (filter f (range_with_len 0 n)) ≡ 0). z ∙ sym (ap (λ b. cond b 1 0) off))
    (λ (nz : count_of p (filter f (range_with_len 0 n)) ≡ 0 → ⊥).
    absurd (false≢true (sym off ∙ filtered_passes f p (range_with_len 0 n) (omega arith))))
    (cases_eq (count_of p (filter f (range_with_len 0 n))) 0))
    (cases_Bool (f p))

-- tests that agree on a range filter it alike
pub filtered_alike : (f g : ℕ → Bool) (a n : ℕ) → ((p : ℕ) → a ≤ p → p < a + n → f p ≡ g p)
    → filter f (range_with_len a n) ≡ filter g (range_with_len a n)
filtered_alike f g a zero same = refl
filtered_alike f g a (suc n) same =
    ap (λ b. cond b (a ∷ filter f (range_with_len (a + 1) n)) (filter f (range_with_len (a + 1) n))) (same a (omega arith) (omega arith))
    ∙ ap (λ xs. cond (g a) (a ∷ xs) xs) (filtered_alike f g (a + 1) n (λ p low high. same p (omega arith) (omega arith)))

module _ {L : Type 0} (net : Network L) where
  pub past_not_enabled : (s : State L) (p : ℕ) → length s.locals ≤ p → is_enabled net s p ≡ false
  past_not_enabled s p h = ap (λ o. is_ready net p o s.wires) (slice_get_past s.locals p h)

  pub enabled_there : (s : State L) (p : ℕ) → is_enabled net s p ≡ true → p < length s.locals
  enabled_there s p e =
      ⊎_elim
      (λ below. below)
      (λ past. absurd (false≢true (sym (past_not_enabled s p past) ∙ e)))
      (cases_lt p (length s.locals))

  pub law_cycle_is_round : CycleIsRound net
  law_cycle_is_round s =
      record {
        is_round =
            record {
              once = λ p. once_at_most (λ q. is_enabled net s q) 0 (length s.locals) p;
              enabled = λ p some. filtered_passes (λ q. is_enabled net s q) p (range_with_len 0 (length s.locals)) some;
            };
        whole =
            λ p e. once_within (λ q. is_enabled net s q) 0 (length s.locals) p (omega arith) (omega (arith, enabled_there s p e)) e;
      }

  pub law_empty_is_quiet : EmptyIsQuiet net
  law_empty_is_quiet s = (quiet_if, empty_if)
    where
      quiet_if : all_enabled net s ≡ [] → IsQuiet net s
      quiet_if empty p =
          false_from_ne_true (is_enabled net s p)
          (λ e. absurd (omega (arith, (law_cycle_is_round s).whole p e, ap (λ xs. count_of p xs) empty)))

      none : IsQuiet net s → (p : ℕ) → count_of p (all_enabled net s) ≡ 0
      none quiet p =
          ⊎_elim
          (λ (z : count_of p (all_enabled net s) ≡ 0). z)
          (λ (nz : count_of p (all_enabled net s) ≡ 0 → ⊥).
          absurd (false≢true (sym (quiet p) ∙ (law_cycle_is_round s).is_round.enabled p (omega arith))))
          (cases_eq (count_of p (all_enabled net s)) 0)

      empty_if : IsQuiet net s → all_enabled net s ≡ []
      empty_if quiet = no_counts (all_enabled net s) (none quiet)

  pub law_at_most_once : AtMostOnce net
  law_at_most_once s zero p = omega arith
  law_at_most_once s (suc k) p =
      omega (arith, count-append p (cycles net s k) (all_enabled net (after_cycles net s k)), (law_cycle_is_round (after_cycles net s k)).is_round.once p, law_at_most_once s k p)

  -- more cycles have no fewer steps
  cycles_rise : (s : State L) (j k p : ℕ) → count_of p (cycles net s j) ≤ count_of p (cycles net s (j + k))
  cycles_rise s j zero p =
      let same : j ≡ j + 0 = omega arith in
      let many : count_of p (cycles net s j) ≡ count_of p (cycles net s (j + 0)) = ap (λ n. count_of p (cycles net s n)) same in
      omega (arith, many)
  cycles_rise s j (suc k) p =
      let same : suc (j + k) ≡ j + suc k = omega arith in
      let many : count_of p (cycles net s (suc (j + k))) ≡ count_of p (cycles net s (j + suc k)) =
      ap (λ n. count_of p (cycles net s n)) same in
      omega (arith, many, cycles_rise s j k p, count-append p (cycles net s (j + k)) (all_enabled net (after_cycles net s (j + k))))

module _ {L : Type 0} (net : Network L) (producer consumer : ℕ → ℕ) (wired : IsWired net producer consumer) where
  -- a round is lawful
  pub round_lawful : (s : State L) (ps : List ℕ) → ((p : ℕ) → count_of p ps ≤ 1)
      → ((p : ℕ) → 0 < count_of p ps → is_enabled net s p ≡ true) → IsLawful net s ps
  round_lawful s [] once enabled = tt
  round_lawful s (q ∷ ps) once enabled =
      (here, round_lawful (step net s q) ps once_later enabled_later)
    where
      here : is_enabled net s q ≡ true
      here = enabled q (omega (arith, count_here q ps))

      once_later : (p : ℕ) → count_of p ps ≤ 1
      once_later p =
          ⊎_elim
          (λ (e : q ≡ p). subst (λ x. count_of x ps ≤ 1) e (omega (arith, count_here q ps, once q)))
          (λ (ne : q ≡ p → ⊥). omega (arith, count_there p q ps ne, once p))
          (cases_eq q p)

      enabled_later : (p : ℕ) → 0 < count_of p ps → is_enabled net (step net s q) p ≡ true
      enabled_later p some =
          ⊎_elim
          (λ (e : q ≡ p).
          let here_again : 0 < count_of q ps = subst (λ x. 0 < count_of x ps) (sym e) some in
          absurd (omega (arith, count_here q ps, once q)))
          (λ (ne : q ≡ p → ⊥).
          still_enabled net producer consumer wired s q p ne here (enabled p (omega (arith, count_there p q ps ne))))
          (cases_eq q p)

  pub law_any_order : AnyOrder net
  law_any_order s round other is_round same =
      record {
        lawful = lawful_other;
        ends = same_ends net producer consumer wired s other round lawful_other lawful_round same;
        did = did;
        passed_on = passed_on;
      }
    where
      lawful_round : IsLawful net s round
      lawful_round = round_lawful s round is_round.once is_round.enabled

      lawful_other : IsLawful net s other
      lawful_other =
          round_lawful s other (λ p. omega (arith, same p, is_round.once p)) (λ p some. is_round.enabled p (omega (arith, same p)))

      did : (p : ℕ) → events_of net s other p ≡ events_of net s round p
      did p = same_events net producer consumer wired s other round lawful_other lawful_round p (same p)

      passed_on : (w : ℕ) → passed net s other w ≡ passed net s round w
      passed_on w =
          passed_by net producer consumer wired s other w
          ∙ ap (λ es. flat_map (λ (e : Event L). sent_on w e.sent) es) (did (producer w))
          ∙ sym (passed_by net producer consumer wired s round w)

  pub law_cycles_are_lawful : CyclesAreLawful net
  law_cycles_are_lawful s zero = tt
  law_cycles_are_lawful s (suc k) =
      let round = (law_cycle_is_round net (after_cycles net s k)).is_round in
      lawful-append net s (cycles net s k) (all_enabled net (after_cycles net s k)) (law_cycles_are_lawful s k)
      (round_lawful (after_cycles net s k) (all_enabled net (after_cycles net s k)) round.once round.enabled)

  -- where no processor has more steps in g than in h, none has after a round from the end of g and a cycle from that of h
  pub stays_ahead : (s : State L) (g h round : List ℕ) → IsLawful net s g → IsLawful net s h
      → ((p : ℕ) → count_of p g ≤ count_of p h) → IsRound net (end_of net s g) round
      → (p : ℕ) → count_of p (g ++ round) ≤ count_of p (h ++ all_enabled net (end_of net s h))
  stays_ahead s g h round of_g of_h behind is_round p =
      ⊎_elim
      (λ (none : count_of p round ≡ 0). omega (arith, sums, later, behind p))
      (λ (some : count_of p round ≡ 0 → ⊥).
      ⊎_elim
      (λ (less : count_of p g < count_of p h). omega (arith, sums, later, is_round.once p))
      (λ (same : count_of p h ≤ count_of p g).
      let now = is_round.enabled p (omega arith) in
      let then =
      beyond_enabled net producer consumer wired s g p [] h (lawful-push net s g p of_g now) of_h behind same in
      omega (arith, sums, later, behind p, is_round.once p, (law_cycle_is_round net (end_of net s h)).whole p then))
      (cases_lt (count_of p g) (count_of p h)))
      (cases_eq (count_of p round) 0)
    where
      sums : count_of p (g ++ round) ≡ count_of p g + count_of p round
      sums = count-append p g round

      later : count_of p (h ++ all_enabled net (end_of net s h)) ≡ count_of p h + count_of p (all_enabled net (end_of net s h))
      later = count-append p h (all_enabled net (end_of net s h))

  -- the same of many rounds, after g and j cycles
  none_sooner_from : (s : State L) (g : List ℕ) (j : ℕ) → IsLawful net s g
      → ((p : ℕ) → count_of p g ≤ count_of p (cycles net s j)) → (rounds : List (List ℕ)) (k p : ℕ)
      → IsSchedule net (end_of net s g) rounds → count_of p (g ++ first_rounds k rounds) ≤ count_of p (cycles net s (j + k))
  none_sooner_from s g j of_g behind rounds zero p is =
      let none : count_of p (g ++ []) ≡ count_of p g = ap (λ xs. count_of p xs) (append-nil g) in
      omega (arith, none, behind p, cycles_rise net s j zero p)
  none_sooner_from s g j of_g behind [] (suc k) p is =
      let none : count_of p (g ++ []) ≡ count_of p g = ap (λ xs. count_of p xs) (append-nil g) in
      omega (arith, none, behind p, cycles_rise net s j (suc k) p)
  none_sooner_from s g j of_g behind (round ∷ rounds) (suc k) p is =
      let of_round = round_lawful (end_of net s g) round is.0.once is.0.enabled in
      let of_more = lawful-append net s g round of_g of_round in
      let ahead = stays_ahead s g (cycles net s j) round of_g (law_cycles_are_lawful s j) behind is.0 in
      let rest =
      none_sooner_from s (g ++ round) (suc j) of_more ahead rounds k p
      (subst (λ t. IsSchedule net t rounds) (sym (end_of-append net s g round)) is.1) in
      let joined : count_of p ((g ++ round) ++ first_rounds k rounds) ≡ count_of p (g ++ (round ++ first_rounds k rounds)) =
      ap (λ xs. count_of p xs) (append_assoc g round (first_rounds k rounds)) in
      let same : suc j + k ≡ j + suc k = omega arith in
      let many : count_of p (cycles net s (suc j + k)) ≡ count_of p (cycles net s (j + suc k)) =
      ap (λ n. count_of p (cycles net s n)) same in
      omega (arith, rest, joined, many)

  pub law_none_sooner : NoneSooner net
  law_none_sooner s rounds k p is =
      let from = none_sooner_from s [] 0 tt (λ q. omega arith) rounds k p is in
      let same : 0 + k ≡ k = omega arith in
      let many : count_of p (cycles net s (0 + k)) ≡ count_of p (cycles net s k) = ap (λ n. count_of p (cycles net s n)) same in
      omega (arith, from, many)

  -- a schedule is a lawful list
  pub schedule_lawful : (s : State L) (rounds : List (List ℕ)) (k : ℕ) → IsSchedule net s rounds
      → IsLawful net s (first_rounds k rounds)
  schedule_lawful s rounds zero is = tt
  schedule_lawful s [] (suc k) is = tt
  schedule_lawful s (round ∷ rounds) (suc k) is =
      lawful-append net s round (first_rounds k rounds) (round_lawful s round is.0.once is.0.enabled)
      (schedule_lawful (end_of net s round) rounds k is.1)

  pub law_none_rests_sooner : NoneRestsSooner net
  law_none_rests_sooner s rounds k is quiet =
      let of_rounds = schedule_lawful s rounds k is in
      let of_cycles = law_cycles_are_lawful s k in
      same_ends net producer consumer wired s (cycles net s k) (first_rounds k rounds) of_cycles of_rounds
      (λ p. omega (arith, no_more_steps net producer consumer wired s (cycles net s k) (first_rounds k rounds) of_cycles of_rounds quiet p, law_none_sooner s rounds k p is))

module _ {L : Type 0} (net : Network L) (producer consumer : ℕ → ℕ) (wired : IsWired net producer consumer)
    (fit : ℕ → L → Type 0) (left : ℕ → L → ℕ) (bounded : IsBounded net fit left) where
  length-append' : (xs ys : List ℕ) → length (xs ++ ys) ≡ length xs + length ys
  length-append' [] ys = omega arith
  length-append' (x ∷ xs) ys = omega (arith, length-append' xs ys)

  -- after so many cycles there were as many steps, or the state is quiet
  pub long_or_quiet : (s : State L) (k : ℕ)
      → (k ≤ length (cycles net s k)) ⊎ ((j : ℕ) × (j < k) × (j ≤ length (cycles net s j)) × IsQuiet net (after_cycles net s j))
  long_or_quiet s zero = inl (omega arith)
  long_or_quiet s (suc k) =
      ⊎_elim
      (λ (long : k ≤ length (cycles net s k)).
      ⊎_elim
      (λ (e : (p : ℕ) × (is_enabled net (after_cycles net s k) p ≡ true)).
      let one = (law_cycle_is_round net (after_cycles net s k)).whole e.0 e.1 in
      inl (omega (arith, length-append' (cycles net s k) (all_enabled net (after_cycles net s k)), count_short e.0 (all_enabled net (after_cycles net s k)))))
      (λ quiet. inr (k, omega arith, long, quiet))
      (enabled_or_quiet net (after_cycles net s k)))
      (λ (found : (j : ℕ) × (j < k) × (j ≤ length (cycles net s j)) × IsQuiet net (after_cycles net s j)).
      inr (found.0, omega (arith, found.1), found.2, found.3))
      (long_or_quiet s k)
    where
      count_short : (p : ℕ) (xs : List ℕ) → count_of p xs ≤ length xs
      count_short p [] = omega arith
      count_short p (x ∷ xs) =
          ⊎_elim
          (λ (e : x ≡ p). subst (λ y. count_of p (y ∷ xs) ≤ suc (length xs)) (sym e) (omega (arith, count_here p xs, count_short p xs)))
          (λ (ne : x ≡ p → ⊥). omega (arith, count_there p x xs ne, count_short p xs))
          (cases_eq x p)

  pub law_cycles_rest : CyclesRest net fit left
  law_cycles_rest s fits =
      ⊎_elim
      (λ (long : suc (total left s) ≤ length (cycles net s (suc (total left s)))).
      absurd (omega (arith, bound (suc (total left s)))))
      (λ (found : (j : ℕ) × (j < suc (total left s)) × (j ≤ length (cycles net s j)) × IsQuiet net (after_cycles net s j)).
      (found.0, omega (arith, found.1), found.3))
      (long_or_quiet s (suc (total left s)))
    where
      bound : (k : ℕ) → length (cycles net s k) + total left (after_cycles net s k) ≤ total left s
      bound k = law_no_longer net fit left bounded s (cycles net s k) fits (law_cycles_are_lawful net producer consumer wired s k)

-- a filtered range, one number longer
pub filtered_more : (f : ℕ → Bool) (a n : ℕ)
    → filter f (range_with_len a (suc n)) ≡ filter f (range_with_len a n) ++ cond (f (a + n)) ((a + n) ∷ []) []
filtered_more f a zero =
    let same : a ≡ a + 0 = omega arith in ap (λ i. cond (f i) (i ∷ []) []) same
filtered_more f a (suc n) =
    ap (λ xs. cond (f a) (a ∷ xs) xs) (filtered_more f (a + 1) n)
    ∙ (let same : (a + 1) + n ≡ a + suc n = omega arith in
    ap (λ i. cond (f a) (a ∷ (filter f (range_with_len (a + 1) n) ++ cond (f i) (i ∷ []) [])) (filter f (range_with_len (a + 1) n) ++ cond (f i) (i ∷ []) [])) same)
    ∙ apart (f a) (filter f (range_with_len (a + 1) n)) (cond (f (a + suc n)) ((a + suc n) ∷ []) [])
  where
    apart : (b : Bool) (xs ys : List ℕ) → cond b (a ∷ (xs ++ ys)) (xs ++ ys) ≡ cond b (a ∷ xs) xs ++ ys
    apart true xs ys = refl
    apart false xs ys = refl

-- what is enabled is so after those before it in a cycle
pub next_enabled : {L : Type 0} (net : Network L) (producer consumer : ℕ → ℕ) → IsWired net producer consumer
    → (s : State L) (i : ℕ) → is_enabled net s i ≡ true
    → is_enabled net (end_of net s (filter (λ p. is_enabled net s p) (range_with_len 0 i))) i ≡ true
next_enabled {L = L} net producer consumer wired s i on =
    let f : ℕ → Bool = λ p. is_enabled net s p in
    let all = filter f (range_with_len 0 (suc i)) in
    let same : 0 + i ≡ i = omega arith in
    let whole : all ≡ filter f (range_with_len 0 i) ++ i ∷ [] =
    filtered_more f 0 i ∙ ap (λ k. filter f (range_with_len 0 i) ++ cond (f k) (k ∷ []) []) same
    ∙ ap (λ b. filter f (range_with_len 0 i) ++ cond b (i ∷ []) []) on in
    let lawful = round_lawful net producer consumer wired s all (once_at_most f 0 (suc i)) (λ p some. filtered_passes f p (range_with_len 0 (suc i)) some) in
    (lawful_back net s (filter f (range_with_len 0 i)) (i ∷ []) (subst (λ xs. IsLawful net s xs) whole lawful)).0
