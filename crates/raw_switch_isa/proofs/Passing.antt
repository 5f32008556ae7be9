-- Tests of all elements of a list, and of the ends.
use Rattle.std.proofs.Common.{◌≡◌, ℕ, suc, ◌<◌, Bool, true, false, not, ◌&&◌, ◌||◌, cond, List, [], ◌∷◌, length, get_or, map, refl, ap, ◌∙◌, arith}
use Rattle.std.specs.List.{list_all, filter}
use Rattle.std.proofs.lemmas.List.Folds.{list_all_at}
use Rattle.raw_switch_isa.specs.Ends.{ends}

-- all pass where each does
pub all_pass : {X : Type 0} (p : X → Bool) (xs : List X) (d : X) → ((k : ℕ) → k < length xs → p (get_or xs k d) ≡ true) → list_all p xs ≡ true
all_pass p [] d each = refl
all_pass p (x ∷ xs) d each = rw (each 0 (omega arith), all_pass p xs d (λ k lt. each (suc k) (omega arith))) refl

all_kept : {X : Type 0} (p q : X → Bool) (xs : List X) → list_all p (filter q xs) ≡ list_all (λ x. not (q x) || p x) xs
all_kept p q [] = refl
all_kept p q (x ∷ xs) = by_test (q x) (all_kept p q xs)
  where
    by_test : (b : Bool) → list_all p (filter q xs) ≡ list_all (λ y. not (q y) || p y) xs → list_all p (cond b (x ∷ filter q xs) (filter q xs)) ≡ ((not b || p x) && list_all (λ y. not (q y) || p y) xs)
    by_test true e = ap (λ rest. p x && rest) e
    by_test false e = e

-- the ten ends are the numbers below ten
pub mapped_ends : {Y : Type 0} (f : ℕ → Y) (i : ℕ) (d : Y) → i < 10 → get_or (map f ends) i d ≡ f i
unfolding ends
mapped_ends f (suc (suc (suc (suc (suc (suc (suc (suc (suc (suc i)))))))))) d h = absurd (omega arith)
mapped_ends f _ d h = refl

pub end_is : (i : ℕ) → i < 10 → get_or ends i 0 ≡ i
unfolding ends
end_is (suc (suc (suc (suc (suc (suc (suc (suc (suc (suc i)))))))))) h = absurd (omega arith)
end_is _ h = refl

pub ten_ends : length ends ≡ 10
unfolding ends
ten_ends = refl

-- an end that is kept and fails
pub end_fails : (p q : ℕ → Bool) (i : ℕ) → i < 10 → q i ≡ true → p i ≡ false → list_all p (filter q ends) ≡ false
end_fails p q i lt kept fails =
    let test = λ (x : ℕ). not (q x) || p x in
    let here : test (get_or ends i 0) ≡ false = rw (end_is i lt, kept, fails) refl in
    let count = ten_ends in
    all_kept p q ends ∙ list_all_at test ends i 0 (omega arith) here

-- each end that is kept passes
pub ends_pass : (p q : ℕ → Bool) → ((i : ℕ) → i < 10 → (not (q i) || p i) ≡ true) → list_all p (filter q ends) ≡ true
ends_pass p q each =
    let test = λ (x : ℕ). not (q x) || p x in
    let count = ten_ends in
    all_kept p q ends ∙ all_pass test ends 0 (λ k lt. rw (end_is k (omega arith)) (each k (omega arith)))
