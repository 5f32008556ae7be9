-- Counts of a word's bits.
use Rattle.std.proofs.Common.{◌≡◌, ℕ, ◌+◌, ◌*◌, ◌/◌, ◌%◌, ◌^◌, ◌<◌, ◌≤◌, ⊎_elim, zero, suc, max, Bool, true, false, cond, nat_lt, refl, sym, ap, ◌∙◌, add-one, arith}
use Rattle.std.specs.Prelude.{count_by, sum_by}
use Rattle.std.specs.Int.Count.{count_leading_zeros, ones, ones_step}
use Rattle.std.specs.List.{range_with_len}
use Rattle.std.proofs.lemmas.Bool.{cases_lt}
use Rattle.std.proofs.lemmas.Bool.Decides.{nat_tests}
use Rattle.std.proofs.lemmas.List.Sums.{sum_by-cons}
use Rattle.std.proofs.lemmas.Nat.{leading_length, ones_cat, mod-pow-add, shr-shr, pow-add}
use Rattle.std.proofs.Math.Nat.{pow-le-pow_right}
use Rattle.raw_tile_isa.specs.Words.{places, word_leading_zeros, word_ones}

-- a test that holds from m on counts the numbers from m on
counted : (p : ℕ → Bool) (m : ℕ) → ((k : ℕ) → k < m → p k ≡ false) → ((k : ℕ) → m ≤ k → p k ≡ true)
    → (n s : ℕ) → count_by p (range_with_len s n) + max s m ≡ max (s + n) m
counted p m below above zero s = omega arith
counted p m below above (suc n) s =
    let rest = counted p m below above n (s + 1) in
    let step : count_by p (range_with_len s (suc n)) ≡ cond (p s) 1 0 + count_by p (range_with_len (s + 1) n) =
    sum_by-cons (λ k. cond (p k) 1 0) s (range_with_len (s + 1) n) in
    ⊎_elim {C = count_by p (range_with_len s (suc n)) + max s m ≡ max (s + suc n) m}
    (λ (l : s < m). let none : cond {A = ℕ} (p s) 1 0 ≡ 0 = rw (below s l) refl in omega arith)
    (λ (l : m ≤ s). let one : cond {A = ℕ} (p s) 1 0 ≡ 1 = rw (above s l) refl in omega arith)
    (cases_lt s m)

-- the powers of two that are above a number are those from its length on
powers_above : (a m : ℕ) → a < 2 ^ m → (k : ℕ) → m ≤ k → nat_lt a (2 ^ k) ≡ true
powers_above a m h k l = let p : 2 ^ m ≤ 2 ^ k = pow-le-pow_right (omega arith) l in grind (arith, nat_tests)

powers_within : (a m : ℕ) → 2 ^ m ≤ 2 * a + 1 → (k : ℕ) → k < m → nat_lt a (2 ^ k) ≡ false
powers_within a m h k l =
    let p : 2 ^ (k + 1) ≤ 2 ^ m = pow-le-pow_right (omega arith) (omega arith) in
    let q : 2 ^ (k + 1) ≡ 2 ^ k * 2 ^ 1 = pow-add 2 k 1 in
    grind (arith, nat_tests)

pub leading_zeros_is : (a : ℕ) → a < 4294967296 → count_leading_zeros 32 a ≡ word_leading_zeros a
unfolding word_leading_zeros places
leading_zeros_is a h =
    let l = leading_length 32 a h in
    let c = counted (λ k. nat_lt a (2 ^ k)) l.0 (powers_within a l.0 l.3) (powers_above a l.0 l.2) 32 0 in
    let e = l.1 in
    omega arith

no_ones : ones 0 ≡ 0
unfolding ones
no_ones = refl

-- a bit is the count of its ones
ones_bit : (bit : ℕ) → bit < 2 → ones bit ≡ bit
ones_bit bit h =
    let half : bit / 2 ≡ 0 = omega arith in
    let e : ones (bit / 2) ≡ 0 = ap ones half ∙ no_ones in
    let step = ones_step bit in
    omega arith

-- the sum of the bits of n places from s on is the count of ones in the number that they make
summed : (a n s : ℕ) → sum_by (λ place. a / 2 ^ place % 2) (range_with_len s n) ≡ ones (a / 2 ^ s % 2 ^ n)
summed a zero s = let none : a / 2 ^ s % 2 ^ 0 ≡ 0 = omega arith in sym (ap ones none ∙ ones_bit 0 (omega arith))
summed a (suc n) s =
    let step : sum_by (λ place. a / 2 ^ place % 2) (range_with_len s (suc n))
    ≡ a / 2 ^ s % 2 + sum_by (λ place. a / 2 ^ place % 2) (range_with_len (s + 1) n) =
    sum_by-cons (λ place. a / 2 ^ place % 2) s (range_with_len (s + 1) n) in
    let bit = ones_bit (a / 2 ^ s % 2) (omega arith) in
    let whole : a / 2 ^ s % 2 ^ suc n ≡ a / 2 ^ (s + 1) % 2 ^ n * 2 ^ 1 + a / 2 ^ s % 2 =
    ap (λ k. a / 2 ^ s % 2 ^ k) (sym (add-one n)) ∙ mod-pow-add (a / 2 ^ s) n 1 ∙ rw (shr-shr a s 1) refl in
    let cat = ones_cat 1 (a / 2 ^ (s + 1) % 2 ^ n) (a / 2 ^ s % 2) (omega arith) in
    let rest = summed a n (s + 1) in
    let e : ones (a / 2 ^ s % 2 ^ suc n) ≡ ones (a / 2 ^ (s + 1) % 2 ^ n) + ones (a / 2 ^ s % 2) = ap ones whole ∙ cat in
    step ∙ omega arith

pub ones_is : (a : ℕ) → a < 4294967296 → ones a ≡ word_ones a
unfolding word_ones places
ones_is a h = let whole : a ≡ a / 2 ^ 0 % 2 ^ 32 = omega arith in ap ones whole ∙ sym (summed a 32 0)
