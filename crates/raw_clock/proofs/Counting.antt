-- Counts and sums over ranges and lists.
use Rattle.std.proofs.Common.{◌≡◌, ℕ, zero, suc, ◌+◌, ◌<◌, Bool, true, false, cond, eqb, List, [], ◌∷◌, length, refl, sym, ap, ◌∙◌, subst, ⊎_elim, arith}
use Rattle.std.specs.Prelude.{sum_by}
use Rattle.std.specs.List.{count_by, range_with_len}
use Rattle.std.proofs.lemmas.List.Sums.{sum_by-cons}
use Rattle.std.proofs.lemmas.Bool.{cases_eq, eq-eqb, ne_eqb}
use Rattle.raw_network.specs.Network.{count_of}
use Rattle.raw_network.proofs.Wires.{count_here, count_there}
use Rattle.raw_lockstep.proofs.Cycling.{count_filtered}
use Rattle.raw_clock.proofs.Ends.{all_pass}

abbrev pub one_if : Bool → ℕ
one_if b = cond b 1 0

-- one number more of a range, in a sum,
pub sum_next : (f : ℕ → ℕ) (a n : ℕ) → sum_by f (range_with_len a (suc n)) ≡ sum_by f (range_with_len a n) + f (a + n)
sum_next f a zero =
    let same : a + 0 ≡ a = omega arith in
    let there : f (a + 0) ≡ f a = ap f same in
    omega (arith, there, sum_by-cons f a [])
sum_next f a (suc n) =
    let same : (a + 1) + n ≡ a + suc n = omega arith in
    let there : f ((a + 1) + n) ≡ f (a + suc n) = ap f same in
    omega (arith, there, sum_next f (a + 1) n, sum_by-cons f a (range_with_len (a + 1) (suc n)), sum_by-cons f a (range_with_len (a + 1) n))

-- and in a count
pub count_more : (f : ℕ → Bool) (a n : ℕ) → count_by f (range_with_len a (suc n)) ≡ count_by f (range_with_len a n) + one_if (f (a + n))
count_more f a n = sum_next (λ x. one_if (f x)) a n

-- how often a number stands in a list, as a sum over the list
pub sum_same : (v : ℕ) (ws : List ℕ) → sum_by (λ w. one_if (eqb v w)) ws ≡ count_of v ws
sum_same v [] = refl
sum_same v (w ∷ ws) =
    ⊎_elim
    (λ (e : w ≡ v).
    let one : one_if (eqb v w) ≡ 1 = ap (λ b. one_if b) (eq-eqb v w (sym e)) in
    let more : count_of v (w ∷ ws) ≡ suc (count_of v ws) = subst (λ u. count_of u (w ∷ ws) ≡ suc (count_of u ws)) e (count_here w ws) in
    omega (arith, one, more, sum_same v ws, sum_by-cons (λ w. one_if (eqb v w)) w ws))
    (λ (ne : w ≡ v → ⊥).
    let none : one_if (eqb v w) ≡ 0 = ap (λ b. one_if b) (ne_eqb v w (λ e. ne (sym e))) in
    omega (arith, none, count_there v w ws ne, sum_same v ws, sum_by-cons (λ w. one_if (eqb v w)) w ws))
    (cases_eq w v)

pub sum_zero : (ws : List ℕ) → sum_by (λ (w : ℕ). 0) ws ≡ 0
sum_zero [] = refl
sum_zero (w ∷ ws) = omega (arith, sum_zero ws, sum_by-cons (λ (w : ℕ). 0) w ws)

-- a sum of sums
pub sums_more : (a b c : ℕ → ℕ) → ((w : ℕ) → a w ≡ b w + c w) → (vs : List ℕ) → sum_by a vs ≡ sum_by b vs + sum_by c vs
sums_more a b c each [] = refl
sums_more a b c each (v ∷ vs) = omega (arith, each v, sums_more a b c each vs, sum_by-cons a v vs, sum_by-cons b v vs, sum_by-cons c v vs)

-- one number more in a list
count_next : (v p : ℕ) (xs : List ℕ) → count_of p (v ∷ xs) ≡ one_if (eqb v p) + count_of p xs
count_next v p xs = by_test (eqb v p)
  where
    by_test : (b : Bool) → cond b (suc (count_of p xs)) (count_of p xs) ≡ one_if b + count_of p xs
    by_test true = omega arith
    by_test false = omega arith

-- how often the numbers below n stand in a list, which has no others, is how long it is
pub sum_counts : (n : ℕ) (xs : List ℕ) → ((p : ℕ) → 0 < count_of p xs → p < n) → sum_by (λ p. count_of p xs) (range_with_len 0 n) ≡ length xs
sum_counts n [] within = sum_zero (range_with_len 0 n)
sum_counts n (v ∷ xs) within =
    let there : v < n = within v (omega (arith, count_here v xs)) in
    let one : count_of v (range_with_len 0 n) ≡ 1 = ap (count_of v) (sym (all_pass 0 n)) ∙ count_filtered (λ i. true) n v there in
    omega (
      arith,
      one,
      sum_same v (range_with_len 0 n),
      sums_more (λ p. count_of p (v ∷ xs)) (λ p. one_if (eqb v p)) (λ p. count_of p xs) (λ p. count_next v p xs) (range_with_len 0 n),
      sum_counts n xs (λ p some. within p (omega (arith, some, count_next v p xs))),
    )
