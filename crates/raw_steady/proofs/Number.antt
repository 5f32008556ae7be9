-- The number of cycles of a set is that of the first one after which its clock is over.
use Rattle.std.proofs.Common.{◌≡◌, ℕ, zero, suc, ◌+◌, ◌^◌, ◌<◌, ◌≤◌, Bool, true, false, not, refl, sym, ap, ◌∙◌, subst, ⊎_elim, arith}
use Rattle.std.specs.Prelude.{unwrap_or}
use Rattle.std.specs.List.{list_all, range_with_len}
use Rattle.std.proofs.lemmas.Bool.{false≢true, cases_eq, cases_Bool, and_parts, and_from}
use Rattle.raw_grid.specs.Topology.{proc_count}
use Rattle.raw_grid.proofs.Growth.{procs_few}
use Rattle.raw_model.specs.Program.{ProgramSet, IsSet}
use Rattle.raw_depth.proofs.Finding.{find_is}
use Rattle.raw_clock.specs.Clock.{ClockState, clock, turn_in, goes, IsOver, GoesOn, HasCycles}
use Rattle.raw_clock.proofs.Clocking.{law_ends}
use Rattle.raw_clock.proofs.Bounding.{few_cycles}
use Rattle.raw_steady.specs.Count.{is_over, first_over, cycle_count}

all_in : (f : ℕ → Bool) (a n : ℕ) → ((k : ℕ) → k < a + n → f k ≡ true) → list_all f (range_with_len a n) ≡ true
all_in f a zero each = refl
all_in f a (suc n) each =
    and_from (f a) (list_all f (range_with_len (a + 1) n)) (each a (omega arith)) (all_in f (a + 1) n (λ k high. each k (omega arith)))

pub each_in : (f : ℕ → Bool) (a n : ℕ) → list_all f (range_with_len a n) ≡ true → (k : ℕ) → a ≤ k → k < a + n → f k ≡ true
each_in f a zero all k low high = absurd (omega arith)
each_in f a (suc n) all k low high =
    let parts = and_parts (f a) (list_all f (range_with_len (a + 1) n)) all in
    ⊎_elim
    (λ (same : a ≡ k). ap f (sym same) ∙ parts.0)
    (λ (ne : a ≡ k → ⊥). each_in f (a + 1) n parts.1 k (omega arith) (omega arith))
    (cases_eq a k)

still : (b : Bool) → b ≡ false → not b ≡ true
still b off = ap not off

moves : (b : Bool) → b ≡ true → not b ≡ true → ⊥
moves b on off = false≢true (sym (ap not on) ∙ off)

module _ (set : ProgramSet) (valid : IsSet set) where
  over_so : (c : ClockState) → IsOver set c → is_over set c ≡ true
  over_so c over =
      all_in (λ p. not (goes (turn_in set c p))) 0 (proc_count set.topo) (λ p below. still (goes (turn_in set c p)) (over p (omega (arith, below))))

  not_over : (c : ClockState) → GoesOn set c → is_over set c ≡ false
  not_over c on =
      ⊎_elim
      (λ (over : is_over set c ≡ true).
      let there = on.there in
      absurd
      (moves (goes (turn_in set c on.p)) on.does
      (each_in (λ p. not (goes (turn_in set c p))) 0 (proc_count set.topo) over on.p (omega arith) (omega (arith, there)))))
      (λ (going : is_over set c ≡ false). going)
      (cases_Bool (is_over set c))

  first_is : (n many : ℕ) → n < many → HasCycles set n → first_over set many ≡ n
  first_is n many less has =
      ap (λ o. unwrap_or o 0)
      (find_is (λ k. is_over set (clock set k)) 0 many n (record {
        from = omega arith;
        below = omega (arith, less);
        passes = over_so (clock set n) has.over;
        before = λ k low high. not_over (clock set k) (has.before k high);
      }))

  pub only_count : (n : ℕ) → HasCycles set n → n ≡ cycle_count set
  unfolding cycle_count
  only_count n has =
      let procs : proc_count set.topo ≤ 256 = omega (arith, procs_few set.topo valid.topology) in
      let few = few_cycles set valid procs n has.before in
      sym (first_is n (2 ^ 40 + 1) (omega (arith, few)) has)

  pub has_count : HasCycles set (cycle_count set)
  has_count = let ends = law_ends set valid in subst (λ n. HasCycles set n) (only_count ends.0 ends.1) ends.1
