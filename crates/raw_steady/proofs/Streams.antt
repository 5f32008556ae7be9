-- Streams whose numbers are no greater make no step later.
use Rattle.std.proofs.Common.{◌≡◌, ℕ, zero, suc, ◌+◌, ◌<◌, ◌≤◌, Bool, true, false, cond, List, [], ◌∷◌, ◌++◌, take, refl, sym, ap, ap₂, ◌∙◌, subst, ⊎_elim, arith}
use Rattle.std.specs.Prelude.{sum, slice_index_or}
use Rattle.std.proofs.lemmas.List.Sums.{sum_by-cons}
use Rattle.std.proofs.lemmas.Bool.{cases_lt, false≢true}
use Rattle.raw_network.specs.Network.{count_of}
use Rattle.raw_network.specs.Runs.{IsQuiet}
use Rattle.raw_grid.specs.Wires.{producer_of, consumer_of}
use Rattle.raw_model.specs.Program.{ProgramSet, IsSet}
use Rattle.raw_model.specs.Machine.{machine_of}
use Rattle.raw_model.specs.Start.{start}
use Rattle.raw_model.specs.Cache.{misses, turns, stream_of, is_miss}
use Rattle.raw_model.proofs.Wired.{wired}
use Rattle.raw_processor.proofs.Counting.{misses_push}
use Rattle.raw_lockstep.specs.Lockstep.{cycles, after_cycles}
use Rattle.raw_lockstep.specs.Stalls.{with_stalls, unpaid, steps_in}
use Rattle.raw_pace.specs.Pace.{CostsNoMore}
use Rattle.raw_pace.proofs.Sparing.{law_fewer_stalls_are_ahead, law_fewer_stalls_rest_too}
use Rattle.raw_clock.specs.Clock.{cost_of, clocked, first_clock, clock_turns, clock_steps, clock, GoesOn, HasCycles}
use Rattle.raw_clock.proofs.Clocking.{clock_length, quiet_if_over, over_if_quiet}
use Rattle.raw_steady.specs.Steady.{DiffersInMisses}

sum_next : (xs : List ℕ) (n : ℕ) → sum (take (suc n) xs) ≡ sum (take n xs) + slice_index_or xs n 0
sum_next [] zero = refl
sum_next [] (suc n) = refl
sum_next (x ∷ xs) zero = omega arith
sum_next (x ∷ xs) (suc n) =
    let a : sum (take (suc (suc n)) (x ∷ xs)) ≡ x + sum (take (suc n) xs) = sum_by-cons (λ y. y) x (take (suc n) xs) in
    let b : sum (take (suc n) (x ∷ xs)) ≡ x + sum (take n xs) = sum_by-cons (λ y. y) x (take n xs) in
    let c : slice_index_or (x ∷ xs) (suc n) 0 ≡ slice_index_or xs n 0 = refl in
    omega (arith, a, b, c, sum_next xs n)

no_misses : misses [] ≡ 0
unfolding misses
no_misses = refl

none_first : (xs : List ℕ) → turns xs 0 ≡ 0
none_first xs = refl

module _ (few many : ℕ → List ℕ) (fewer : (p i : ℕ) → slice_index_or (few p) i 0 ≤ slice_index_or (many p) i 0) where
  pub streams_cost : CostsNoMore (λ p touched. turns (few p) (misses touched)) (λ p touched. turns (many p) (misses touched))
  streams_cost =
      record {
        first = λ p. subst (λ k. turns (few p) k ≤ turns (many p) k) (sym no_misses) (omega (arith, none_first (few p), none_first (many p)));
        rises = λ p touched a. rises p touched a;
        each = λ p touched a. each p touched a;
      }
    where
      rises_by : (p n : ℕ) (b : Bool) → sum (take n (many p)) ≤ sum (take (cond b (n + 1) n) (many p))
      rises_by p n true = let same : suc n ≡ n + 1 = omega arith in omega (arith, sum_next (many p) n, ap (λ k. sum (take k (many p))) same)
      rises_by p n false = omega arith

      rises : (p : ℕ) (touched : List ℕ) (a : ℕ) → turns (many p) (misses touched) ≤ turns (many p) (misses (touched ++ a ∷ []))
      rises p touched a = subst (λ k. turns (many p) (misses touched) ≤ turns (many p) k) (sym (misses_push touched a)) (rises_by p (misses touched) (is_miss touched a))

      each_by : (p n : ℕ) (b : Bool)
          → sum (take (cond b (n + 1) n) (few p)) + sum (take n (many p)) ≤ sum (take (cond b (n + 1) n) (many p)) + sum (take n (few p))
      each_by p n true =
          let same : suc n ≡ n + 1 = omega arith in
          omega (arith, sum_next (many p) n, sum_next (few p) n, ap (λ k. sum (take k (many p))) same, ap (λ k. sum (take k (few p))) same, fewer p n)
      each_by p n false = omega arith

      each : (p : ℕ) (touched : List ℕ) (a : ℕ)
          → turns (few p) (misses (touched ++ a ∷ [])) + turns (many p) (misses touched) ≤ turns (many p) (misses (touched ++ a ∷ [])) + turns (few p) (misses touched)
      each p touched a =
          subst (λ k. turns (few p) k + turns (many p) (misses touched) ≤ turns (many p) k + turns (few p) (misses touched)) (sym (misses_push touched a))
          (each_by p (misses touched) (is_miss touched a))

module _ (set other : ProgramSet) (valid : IsSet set) (also : IsSet other) (is : DiffersInMisses set other) where
  costs : CostsNoMore (cost_of other) (cost_of set)
  costs = streams_cost (stream_of other) (stream_of set) is.fewer

  pub ahead : (k p : ℕ) → count_of p (clock_steps set k) ≤ count_of p (clock_steps other k)
  ahead k p =
      subst (λ xs. count_of p (clock_steps set k) ≤ count_of p xs)
      (ap₂ (λ net s. steps_in net (cost_of other) (unpaid s) (cycles (with_stalls net (cost_of other)) (unpaid s) k)) (sym is.machine) (sym is.begin))
      (law_fewer_stalls_are_ahead (machine_of set) (producer_of set.topo) (consumer_of set.topo) (wired set valid.topology) (cost_of other) (cost_of set) (start set) k p costs)

  pub no_longer : (n m : ℕ) → HasCycles set n → HasCycles other m → m ≤ n
  no_longer n m has has' =
      ⊎_elim
      (λ (more : n < m).
      let quiet : IsQuiet (clocked set) (clock set n) = quiet_if_over set valid (clock set n) (clock_length set valid (clock_turns set n)) has.over in
      let rest = law_fewer_stalls_rest_too (machine_of set) (producer_of set.topo) (consumer_of set.topo) (wired set valid.topology) (cost_of other) (cost_of set) (start set) n costs quiet in
      let there : IsQuiet (clocked other) (clock other n) =
      subst (λ net. IsQuiet (with_stalls net (cost_of other)) (after_cycles (with_stalls net (cost_of other)) (first_clock other) n)) (sym is.machine)
      (subst (λ s. IsQuiet (with_stalls (machine_of set) (cost_of other)) (after_cycles (with_stalls (machine_of set) (cost_of other)) (unpaid s) n)) (sym is.begin) rest) in
      let over = over_if_quiet other also (clock other n) (clock_length other also (clock_turns other n)) there in
      let on : GoesOn other (clock other n) = has'.before n more in
      absurd (false≢true (sym (over on.p on.there) ∙ on.does)))
      (λ (less : m ≤ n). less)
      (cases_lt n m)
