-- The first number of a range that passes a test.
use Rattle.std.proofs.Common.{◌≡◌, ℕ, zero, suc, ◌+◌, ◌<◌, ◌≤◌, Bool, true, false, cond, Some, None, refl, ap, ◌∙◌, subst, ⊎_elim, arith}
use Rattle.std.specs.List.{find, range_with_len}
use Rattle.std.proofs.lemmas.Bool.{cases_eq}
use Rattle.std.proofs.lemmas.Option.{same_Some}

-- it passes, and none before it does
pub record IsFound (f : ℕ → Bool) (a n d : ℕ) : Type 0 where
  pub from : a ≤ d
  pub below : d < a + n
  pub passes : f d ≡ true
  pub before : (k : ℕ) → a ≤ k → k < d → f k ≡ false

pub found : (f : ℕ → Bool) (a n d : ℕ) → find f (range_with_len a n) ≡ Some d → IsFound f a n d
found f a zero d e = absurd (cc e)
found f a (suc n) d e = by_test (f a) refl e (λ later. found f (a + 1) n d later)
  where
    by_test : (b : Bool) → f a ≡ b → cond b (Some a) (find f (range_with_len (a + 1) n)) ≡ Some d
        → (find f (range_with_len (a + 1) n) ≡ Some d → IsFound f (a + 1) n d) → IsFound f a (suc n) d
    by_test true is e rest =
        let same : a ≡ d = same_Some a d e in
        subst (IsFound f a (suc n)) same (record { from = omega arith; below = omega arith; passes = is; before = λ k low high. absurd (omega arith) })
    by_test false is e rest =
        let later = rest e in
        let from = later.from in
        let below = later.below in
        record {
          from = omega arith;
          below = omega arith;
          passes = later.passes;
          before = λ k low high.
              ⊎_elim
              (λ (same : k ≡ a). ap f same ∙ is)
              (λ (ne : k ≡ a → ⊥). later.before k (omega arith) high)
              (cases_eq k a);
        }

pub find_is : (f : ℕ → Bool) (a n d : ℕ) → IsFound f a n d → find f (range_with_len a n) ≡ Some d
find_is f a zero d is = absurd (let from = is.from in let below = is.below in omega arith)
find_is f a (suc n) d is =
    ⊎_elim
    (λ (same : a ≡ d). ap (λ b. cond b (Some a) (find f (range_with_len (a + 1) n))) (ap f same ∙ is.passes) ∙ ap Some same)
    (λ (ne : a ≡ d → ⊥).
    let from = is.from in
    let below = is.below in
    ap (λ b. cond b (Some a) (find f (range_with_len (a + 1) n))) (is.before a (omega arith) (omega arith))
    ∙ find_is f (a + 1) n d (record { from = omega arith; below = omega arith; passes = is.passes; before = λ k low high. is.before k (omega arith) high }))
    (cases_eq a d)

-- where none is found none passes
pub none_found : (f : ℕ → Bool) (a n : ℕ) → find f (range_with_len a n) ≡ None → (k : ℕ) → a ≤ k → k < a + n → f k ≡ false
none_found f a zero e k low high = absurd (omega (arith, low, high))
none_found f a (suc n) e k low high = by_test (f a) refl e (λ later more. none_found f (a + 1) n later k more (omega (arith, high)))
  where
    by_test : (b : Bool) → f a ≡ b → cond b (Some a) (find f (range_with_len (a + 1) n)) ≡ None
        → (find f (range_with_len (a + 1) n) ≡ None → a + 1 ≤ k → f k ≡ false) → f k ≡ false
    by_test true is e rest = absurd (cc e)
    by_test false is e rest =
        ⊎_elim
        (λ (same : k ≡ a). ap f same ∙ is)
        (λ (ne : k ≡ a → ⊥). rest e (omega arith))
        (cases_eq k a)
