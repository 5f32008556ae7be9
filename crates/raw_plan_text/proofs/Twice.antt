-- Lists in which a number stands twice, or does not.
use Rattle.std.proofs.Common.{◌≡◌, ◌∙◌, ℕ, Bool, true, false, ◌||◌, eqb, List, [], ◌∷◌, ◌++◌, refl, sym}
use Rattle.std.proofs.lemmas.Bool.{or_parts, eqb-false, eqb-true, eq-eqb, ne_eqb}
use Rattle.std.proofs.lemmas.List.Folds.{list_any-append}
use Rattle.raw_route.specs.Planned.{is_among}
use Rattle.raw_route.specs.Refusals.{has_twice}

turned : (x y : ℕ) → eqb x y ≡ false → eqb y x ≡ false
turned x y e = ne_eqb y x (λ same. eqb-false x y e (sym same))

-- a number that is not among others, behind them
pub once_more : (xs : List ℕ) (x : ℕ) → has_twice xs ≡ false → is_among xs x ≡ false → has_twice (xs ++ x ∷ []) ≡ false
once_more [] x once other = refl
once_more (y ∷ xs) x once other =
    let p = or_parts (is_among xs y) (has_twice xs) once in
    let q = or_parts (eqb y x) (is_among xs x) other in
    let apart : is_among (xs ++ x ∷ []) y ≡ false = list_any-append (λ to. eqb to y) xs (x ∷ []) ∙ rw (p.0, turned y x q.0) refl in
    rw (apart, once_more xs x p.1 q.1) refl

or_true : (b : Bool) → (b || true) ≡ true
or_true true = refl
or_true false = refl

among_here : (xs : List ℕ) (x y : ℕ) (ys : List ℕ) → eqb x y ≡ true → is_among (xs ++ x ∷ ys) y ≡ true
among_here [] x y ys e = rw e refl
among_here (z ∷ xs) x y ys e = rw (among_here xs x y ys e) (or_true (eqb z y))

by_first : (b : Bool) (y x : ℕ) (xs ys : List ℕ) → eqb y x ≡ b → (b || is_among xs x) ≡ true → (is_among xs x ≡ true → has_twice (xs ++ x ∷ ys) ≡ true)
    → (is_among (xs ++ x ∷ ys) y || has_twice (xs ++ x ∷ ys)) ≡ true
by_first true y x xs ys same e there = rw (among_here xs x y ys (eq-eqb x y (sym (eqb-true y x same)))) refl
by_first false y x xs ys other e there = rw (there e) (or_true (is_among (xs ++ x ∷ ys) y))

-- a number that is among others, behind them and before more
pub twice_there : (xs : List ℕ) (x : ℕ) (ys : List ℕ) → is_among xs x ≡ true → has_twice (xs ++ x ∷ ys) ≡ true
twice_there [] x ys e = absurd (cc e)
twice_there (y ∷ xs) x ys e = by_first (eqb y x) y x xs ys refl e (twice_there xs x ys)
