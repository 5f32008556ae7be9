-- Walks along waits, and the processors that they meet.
use Rattle.std.proofs.Common.{◌≡◌, ℕ, suc, zero, ◌+◌, ◌-◌, ◌<◌, ◌≤◌, eqb, length, Option, Some, None, get_or, refl, sym, ap, ◌∙◌, arith}
use Rattle.std.specs.List.{IsDistinct, slice_get}
use Rattle.std.specs.Option.{option_and_then}
use Rattle.std.proofs.lemmas.Bool.{ne_eqb}
use Rattle.std.proofs.lemmas.Option.{slice_get-get_or}
use Rattle.std.proofs.lemmas.Map.Keys.{IsDistinct-from_apart}
use Rattle.raw_cycle.specs.Chains.{IsWithin, walk, stretch}

module _ (next : ℕ → Option ℕ) where
  pub walk_none : (k : ℕ) → walk next k None ≡ None
  walk_none zero = refl
  walk_none (suc k) = walk_none k

  walk_add : (i j : ℕ) (o : Option ℕ) → walk next (i + j) o ≡ walk next j (walk next i o)
  walk_add zero j o = ap (λ n. walk next n o) (let e : zero + j ≡ j = omega arith in e)
  walk_add (suc i) j o = ap (λ n. walk next n o) (let e : suc i + j ≡ suc (i + j) = omega arith in e) ∙ walk_add i j (option_and_then next o)

  -- a walk of k steps, taken as i and then j
  pub walk_parts : (i j k : ℕ) (o : Option ℕ) → i + j ≡ k → walk next k o ≡ walk next j (walk next i o)
  walk_parts i j k o e = ap (λ n. walk next n o) (sym e) ∙ walk_add i j o

  pub one_more : (k at p : ℕ) (o : Option ℕ) → walk next k (Some p) ≡ Some at → next at ≡ o → walk next (suc k) (Some p) ≡ o
  one_more k at p o here e = walk_parts k 1 (suc k) (Some p) (omega arith) ∙ ap (walk next 1) here ∙ e

  pub stays_stopped : (i j : ℕ) (o : Option ℕ) → i ≤ j → walk next i o ≡ None → walk next j o ≡ None
  stays_stopped i j o h e = walk_parts i (j - i) j o (omega arith) ∙ ap (walk next (j - i)) e ∙ walk_none (j - i)

  pub slice_stretch : (m k : ℕ) (o : Option ℕ) → k < m → slice_get (stretch next m o) k ≡ walk next k o
  slice_stretch zero k o h = absurd (omega arith)
  slice_stretch (suc m) k None h = sym (walk_none k)
  slice_stretch (suc m) zero (Some p) h = refl
  slice_stretch (suc m) (suc k) (Some p) h = slice_stretch m k (next p) (omega arith)

  pub length_stretch : (m : ℕ) (o : Option ℕ) → length (stretch next m o) ≤ m
  length_stretch zero o = omega arith
  length_stretch (suc m) None = omega arith
  length_stretch (suc m) (Some p) = let h = length_stretch m (next p) in omega arith

  -- a walk that has not stopped has met as many as its steps
  pub full_stretch : (m q : ℕ) (o : Option ℕ) → walk next m o ≡ Some q → length (stretch next (suc m) o) ≡ suc m
  full_stretch m q None e = let n = walk_none m in cc
  full_stretch zero q (Some p) e = refl
  full_stretch (suc m) q (Some p) e = ap suc (full_stretch m q (next p) e)

  -- where no processor is met at two times, those met are distinct
  pub distinct_stretch : (m : ℕ) (o : Option ℕ) → ((i j x : ℕ) → i < j → j < m → walk next i o ≡ Some x → walk next j o ≡ Some x → ⊥) → IsDistinct eqb (stretch next m o)
  distinct_stretch m o h =
      IsDistinct-from_apart eqb (stretch next m o) (λ i j d ij jl.
      let le = length_stretch m o in
      ne_eqb (get_or (stretch next m o) i d) (get_or (stretch next m o) j d) (λ e.
      h i j (get_or (stretch next m o) j d) ij (omega arith)
      (sym (slice_stretch m i o (omega arith)) ∙ slice_get-get_or (stretch next m o) i d (omega arith) ∙ ap Some e)
      (sym (slice_stretch m j o (omega arith)) ∙ slice_get-get_or (stretch next m o) j d jl)))

  module _ (n : ℕ) (within : IsWithin next n) where
    and_then_below : (o : Option ℕ) (q : ℕ) → option_and_then next o ≡ Some q → q < n
    and_then_below None q e = cc
    and_then_below (Some p) q e = within p q e

    pub walk_below : (k q : ℕ) (o : Option ℕ) → ((p : ℕ) → o ≡ Some p → p < n) → walk next k o ≡ Some q → q < n
    walk_below zero q o h e = h q e
    walk_below (suc k) q o h e = walk_below k q (option_and_then next o) (and_then_below o) e
