-- Of lines of which the latest is first: what the ways of a set say of the next line, and what they
-- hold after it.
use Rattle.std.proofs.Common.{◌≡◌, ℕ, suc, Bool, true, false, cond, not, ◌&&◌, ◌||◌, nat_eq, eqb, leb, List, [], ◌∷◌, length, Option, Some, None, refl, sym, ap, ◌∙◌, ⊎_elim, ◌⊎◌, arith}
use Rattle.std.specs.List.{find, filter, list_any, before_first}
use Rattle.std.specs.Option.{option_eq}
use Rattle.std.proofs.lemmas.Bool.{cases_Bool, eqb-true, eq-eqb, ne_eqb, eqb-false, not-false, or_right, le-leb}
use Rattle.std.proofs.lemmas.List.Sums.{take_while-cons}
use Rattle.raw_model.specs.Cache.{HeldLines, set_of, is_in_set, without_repeats}
use Rattle.raw_processor.specs.Ways.{is_absent, after_touch}

-- the lines that are later than the latest that is x
abbrev since : ℕ → List ℕ → List ℕ
since x [] = []
since x (y ∷ lines) = cond (eqb y x) [] (y ∷ since x lines)

before_first-since : (x : ℕ) (lines : List ℕ) → before_first (λ y. eqb y x) lines ≡ since x lines
before_first-since x [] = refl
before_first-since x (y ∷ lines) = take_while-cons (λ z. not (eqb z x)) y lines ∙ go (eqb y x) (before_first-since x lines)
  where
    go : {xs ys : List ℕ} (b : Bool) → xs ≡ ys → cond (not b) (y ∷ xs) [] ≡ cond b [] (y ∷ ys)
    go true e = refl
    go false e = ap (λ zs. y ∷ zs) e

-- to drop only what fails a test does not change whether some line passes it
list_any-filter : (test kept : ℕ → Bool) → ((x : ℕ) → kept x ≡ false → test x ≡ false) → (xs : List ℕ) → list_any test (filter kept xs) ≡ list_any test xs
list_any-filter test kept fails [] = refl
list_any-filter test kept fails (x ∷ xs) =
    ⊎_elim
    (λ (keeps : kept x ≡ true). simp keeps (ap (λ b. test x || b) (list_any-filter test kept fails xs)))
    (λ (drops : kept x ≡ false). simp (drops, fails x drops) (list_any-filter test kept fails xs))
    (cases_Bool (kept x))

-- nor do repeats
list_any-without_repeats : (test : ℕ → Bool) (xs : List ℕ) → list_any test (without_repeats xs) ≡ list_any test xs
list_any-without_repeats test [] = refl
list_any-without_repeats test (x ∷ xs) =
    ⊎_elim
    (λ (passes : test x ≡ true). simp passes)
    (λ (fails : test x ≡ false).
    simp fails
    (list_any-filter test (λ other. not (eqb other x)) (λ other same. ap test (eqb-true other x (not-false (eqb other x) same)) ∙ fails) (without_repeats xs)
    ∙ list_any-without_repeats test xs))
    (cases_Bool (test x))

-- one more than those that pass are two or more where some passes
two_where_any : (test : ℕ → Bool) (xs : List ℕ) → leb 2 (suc (length (filter test xs))) ≡ list_any test xs
two_where_any test [] = refl
two_where_any test (x ∷ xs) =
    ⊎_elim
    (λ (passes : test x ≡ true). simp passes (le-leb 2 (suc (suc (length (filter test xs)))) (omega arith)))
    (λ (fails : test x ≡ false). simp fails (two_where_any test xs))
    (cases_Bool (test x))

cases_eqb : (a b : ℕ) → (eqb a b ≡ true) ⊎ (eqb a b ≡ false)
cases_eqb a b = cases_Bool (eqb a b)

-- the line of the latest of these lines that is of a set
abbrev first_of : ℕ → List ℕ → Option ℕ
first_of number lines = find (is_in_set number) lines

-- that of the latest one that is of the set and not the first
abbrev second_of : Option ℕ → ℕ → List ℕ → Option ℕ
second_of first number lines = find (λ line. is_in_set number line && not (option_eq nat_eq (Some line) first)) lines

-- what a cache holds of a set after these lines, with this one as the first
abbrev held_with : Option ℕ → ℕ → List ℕ → HeldLines
held_with first number lines = record { first = first; second = second_of first number lines }

-- what a cache holds of a set after these lines
abbrev pub held_of : ℕ → List ℕ → HeldLines
held_of number lines = held_with (first_of number lines) number lines

-- a line of another set changes nothing
pub held_past : (number y : ℕ) (lines : List ℕ) → eqb (set_of y) number ≡ false → held_of number (y ∷ lines) ≡ held_of number lines
held_past number y lines out =
    let first : first_of number (y ∷ lines) ≡ first_of number lines = simp out in
    ap (λ o. held_with o number (y ∷ lines)) first ∙ simp out

-- a line of the set is the first
held_front : (number y : ℕ) (lines : List ℕ) → eqb (set_of y) number ≡ true → held_of number (y ∷ lines) ≡ held_with (Some y) number lines
held_front number y lines own =
    let first : first_of number (y ∷ lines) ≡ Some y = simp own in
    let here : eqb y y ≡ true = eq-eqb y y refl in
    ap (λ o. held_with o number (y ∷ lines)) first ∙ simp (own, here)

-- where nothing passes a test, nothing passes it and another one
find_and_none : (f g : ℕ → Bool) (xs : List ℕ) → find f xs ≡ None → find (λ x. f x && g x) xs ≡ None
find_and_none f g [] none = refl
find_and_none f g (x ∷ xs) none = go (f x) (g x) none (find_and_none f g xs)
  where
    go : {o u : Option ℕ} (b c : Bool) → cond b (Some x) o ≡ None → (o ≡ None → u ≡ None) → cond (b && c) (Some x) u ≡ None
    go true c none rest = cc
    go false c none rest = rest none

-- where the first to pass it passes the other too, that is the first to pass both
find_and_some : (f g : ℕ → Bool) (y : ℕ) (xs : List ℕ) → g y ≡ true → find f xs ≡ Some y → find (λ x. f x && g x) xs ≡ Some y
find_and_some f g y [] passes first = cc
find_and_some f g y (x ∷ xs) passes first =
    go (f x) (g x) first (λ (is : x ≡ y). ap g is ∙ passes) (find_and_some f g y xs passes)
  where
    go : {o u : Option ℕ} (b c : Bool) → cond b (Some x) o ≡ Some y → (x ≡ y → c ≡ true) → (o ≡ Some y → u ≡ Some y) → cond (b && c) (Some x) u ≡ Some y
    go true true first here rest = first
    go true false first here rest = let is : x ≡ y = cc in let no : false ≡ true = here is in cc
    go false c first here rest = rest first

module _ (x : ℕ) where
  -- with y as the line touched last, x misses where some line of the set but y came since x, or x
  -- never came: where the latest line of the set but y is not x
  misses_past : (y : ℕ) → eqb y x ≡ false → (lines : List ℕ)
      → (not (list_any (λ z. eqb z x) lines) || list_any (λ z. not (eqb z y)) (filter (is_in_set (set_of x)) (since x lines)))
      ≡ not (option_eq nat_eq (second_of (Some y) (set_of x) lines) (Some x))
  misses_past y differs [] = refl
  misses_past y differs (z ∷ lines) =
      ⊎_elim
      (λ (same : eqb z x ≡ true).
      let is : z ≡ x = eqb-true z x same in
      let own : eqb (set_of z) (set_of x) ≡ true = eq-eqb (set_of z) (set_of x) (ap set_of is) in
      let apart : eqb z y ≡ false = ne_eqb z y (λ (e : z ≡ y). eqb-false y x differs (sym e ∙ is)) in
      simp (same, own, apart))
      (λ (other : eqb z x ≡ false).
      ⊎_elim
      (λ (own : eqb (set_of z) (set_of x) ≡ true).
      ⊎_elim
      (λ (again : eqb z y ≡ true). simp (other, own, again) (misses_past y differs lines))
      (λ (new : eqb z y ≡ false). simp (other, own, new) (or_right (not (list_any (λ v. eqb v x) lines)) true refl))
      (cases_eqb z y))
      (λ (out : eqb (set_of z) (set_of x) ≡ false). simp (other, out) (misses_past y differs lines))
      (cases_eqb (set_of z) (set_of x)))
      (cases_eqb z x)

  -- the two ways of a set are enough to tell a miss
  absent_by : (lines : List ℕ)
      → is_absent (held_of (set_of x) lines) x
      ≡ (not (list_any (λ y. eqb y x) lines) || leb 2 (length (without_repeats (filter (is_in_set (set_of x)) (since x lines)))))
  absent_by [] = refl
  absent_by (y ∷ lines) =
      ⊎_elim
      (λ (own : eqb (set_of y) (set_of x) ≡ true).
      ap (λ held. is_absent held x) (held_front (set_of x) y lines own)
      ∙ ⊎_elim
      (λ (same : eqb y x ≡ true). simp same)
      (λ (other : eqb y x ≡ false).
      let later = filter (is_in_set (set_of x)) (since x lines) in
      let some = two_where_any (λ z. not (eqb z y)) (without_repeats later) ∙ list_any-without_repeats (λ z. not (eqb z y)) later in
      simp (other, own, some) (sym (misses_past y other lines)))
      (cases_eqb y x))
      (λ (out : eqb (set_of y) (set_of x) ≡ false).
      let other : eqb y x ≡ false = ne_eqb y x (λ (e : y ≡ x). eqb-false (set_of y) (set_of x) out (ap set_of e)) in
      ap (λ held. is_absent held x) (held_past (set_of x) y lines out) ∙ simp (out, other) (absent_by lines))
      (cases_eqb (set_of y) (set_of x))

  -- the same in the words of a miss
  pub tells_miss : (lines : List ℕ)
      → is_absent (held_of (set_of x) lines) x ≡ (not (list_any (λ y. eqb y x) lines) || leb 2 (length (without_repeats (filter (is_in_set (set_of x)) (before_first (λ y. eqb y x) lines)))))
  tells_miss lines =
      absent_by lines
      ∙ ap (λ later. not (list_any (λ y. eqb y x) lines) || leb 2 (length (without_repeats (filter (is_in_set (set_of x)) later)))) (sym (before_first-since x lines))

  -- a touch makes the ways those of one more line
  pub held_touched : (lines : List ℕ) → after_touch (held_of (set_of x) lines) x ≡ held_of (set_of x) (x ∷ lines)
  held_touched lines = by_first (first_of (set_of x) lines) refl ∙ sym (held_front (set_of x) x lines own)
    where
      own : eqb (set_of x) (set_of x) ≡ true
      own = eq-eqb (set_of x) (set_of x) refl

      here : eqb x x ≡ true
      here = eq-eqb x x refl

      by_first : (o : Option ℕ) → first_of (set_of x) lines ≡ o → after_touch (held_with o (set_of x) lines) x ≡ held_with (Some x) (set_of x) lines
      by_first None none = ap (λ o. record { first = Some x; second = o }) (sym (find_and_none (is_in_set (set_of x)) (λ y. not (eqb y x)) lines none))
      by_first (Some y) first =
          ⊎_elim
          (λ (same : eqb y x ≡ true). simp same (ap (λ z. held_with (Some z) (set_of x) lines) (eqb-true y x same)))
          (λ (other : eqb y x ≡ false).
          simp other (ap (λ o. record { first = Some x; second = o }) (sym (find_and_some (is_in_set (set_of x)) (λ z. not (eqb z x)) y lines (ap not other) first))))
          (cases_eqb y x)
