-- Lists of one field of each element.
use Rattle.std.proofs.Common.{◌≡◌, ◌≢◌, ℕ, zero, suc, ◌+◌, ◌<◌, ◌≤◌, List, [], ◌∷◌, ◌++◌, length, map, set, Some, refl, sym, ap, subst, ◌∙◌, ⊎_elim, arith, zero-add}
use Rattle.std.specs.Prelude.{slice_get, slice_index_or, option_map, unwrap_or, replicate}
use Rattle.std.proofs.lemmas.Bool.{cases_lt}
use Rattle.std.proofs.lemmas.List.{length_push, set-get_or}
use Rattle.std.proofs.lemmas.Option.{slice_get-map, slice_get_within, get_or_from_slice_get, unwrap_or-slice_get, same_Some}
use Rattle.raw_network.proofs.Wires.{slice_get-set_other}

-- what stands at a place that is there
pub some_at : {X : Type 0} (xs : List X) (i : ℕ) → i < length xs → (x : X) × (slice_get xs i ≡ Some x)
some_at [] i h = absurd (omega (arith, h))
some_at (x ∷ xs) zero h = (x, refl)
some_at (x ∷ xs) (suc i) h = some_at xs i (omega arith)

-- putting what stands there changes nothing
pub set_same : {X : Type 0} (xs : List X) (i : ℕ) (x : X) → slice_get xs i ≡ Some x → set xs i x ≡ xs
set_same xs i x e = ap (set xs i) (sym (get_or_from_slice_get xs i x x e)) ∙ set-get_or xs i x

-- what a list of one field has of one element, before and after that element is put
pub field_at : {X Y : Type 0} (f : X → Y) (xs : List X) (i : ℕ) (x : X) (d : Y) → slice_get xs i ≡ Some x → slice_index_or (map f xs) i d ≡ f x
field_at f xs i x d here = get_or_from_slice_get (map f xs) i (f x) d (slice_get-map f xs i ∙ ap (option_map f) here)

pub other_field : {X Y : Type 0} (f : X → Y) (xs : List X) (i j : ℕ) (y : X) → j ≢ i → slice_get (map f (set xs i y)) j ≡ slice_get (map f xs) j
other_field f xs i j y other = slice_get-map f (set xs i y) j ∙ ap (option_map f) (slice_get-set_other xs i j y other) ∙ sym (slice_get-map f xs j)

pub read_same : {Y : Type 0} (xs ys : List Y) (j : ℕ) (d : Y) → slice_get xs j ≡ slice_get ys j → slice_index_or xs j d ≡ slice_index_or ys j d
read_same xs ys j d same = sym (unwrap_or-slice_get xs j d) ∙ ap (λ o. unwrap_or o d) same ∙ unwrap_or-slice_get ys j d

pub other_read : {X Y : Type 0} (f : X → Y) (xs : List X) (i j : ℕ) (y : X) (d : Y) → j ≢ i → slice_index_or (map f (set xs i y)) j d ≡ slice_index_or (map f xs) j d
other_read f xs i j y d other = read_same (map f (set xs i y)) (map f xs) j d (other_field f xs i j y other)

pub at_field : {X Y : Type 0} (f : X → Y) (xs : List X) (i : ℕ) (x : X) → slice_get xs i ≡ Some x → slice_get (map f xs) i ≡ Some (f x)
at_field f xs i x here = slice_get-map f xs i ∙ ap (option_map f) here

-- what stands in the first or the second of two lists
pub at_front : {X : Type 0} (xs ys : List X) (i : ℕ) (x : X) → slice_get xs i ≡ Some x → slice_get (xs ++ ys) i ≡ Some x
at_front [] ys i x e = cc
at_front (y ∷ xs) ys zero x e = e
at_front (y ∷ xs) ys (suc i) x e = at_front xs ys i x e

pub at_back : {X : Type 0} (xs ys : List X) (i : ℕ) → slice_get (xs ++ ys) (length xs + i) ≡ slice_get ys i
at_back [] ys i = ap (slice_get ys) (zero-add i)
at_back (x ∷ xs) ys i =
    let e : suc (length xs) + i ≡ suc (length xs + i) = omega arith in
    ap (slice_get (x ∷ (xs ++ ys))) e ∙ at_back xs ys i

-- what is so of each element is so of the list
pub map_is : {X Y : Type 0} (f : X → Y) (xs : List X) (ys : List Y) → length xs ≡ length ys
    → ((i : ℕ) (x : X) → slice_get xs i ≡ Some x → slice_get ys i ≡ Some (f x)) → map f xs ≡ ys
map_is f [] [] many each = refl
map_is f [] (y ∷ ys) many each = absurd (omega (arith, many))
map_is f (x ∷ xs) [] many each = absurd (omega (arith, many))
map_is f (x ∷ xs) (y ∷ ys) many each =
    ap (λ z. z ∷ map f xs) (sym (same_Some y (f x) (each 0 x refl)))
    ∙ ap (λ zs. y ∷ zs) (map_is f xs ys (omega (arith, many)) (λ i a e. each (suc i) a e))

pub map_const : {X Y : Type 0} (f : X → Y) (c : Y) (xs : List X) → ((i : ℕ) (x : X) → slice_get xs i ≡ Some x → f x ≡ c)
    → map f xs ≡ replicate (length xs) c
map_const f c [] each = refl
map_const f c (x ∷ xs) each = ap (λ z. z ∷ map f xs) (each 0 x refl) ∙ ap (λ zs. c ∷ zs) (map_const f c xs (λ i a e. each (suc i) a e))

front_only : {X : Type 0} (xs ys : List X) (i : ℕ) → i < length xs → slice_get (xs ++ ys) i ≡ slice_get xs i
front_only [] ys i h = absurd (omega (arith, h))
front_only (x ∷ xs) ys zero h = refl
front_only (x ∷ xs) ys (suc i) h = front_only xs ys i (omega arith)

-- one more element of which a fact holds by its place
pub each_more : {X : Type 0} (P : ℕ → X → Type 0) (xs : List X) (new : X) → ((i : ℕ) (x : X) → slice_get xs i ≡ Some x → P i x)
    → P (length xs) new → (i : ℕ) (x : X) → slice_get (xs ++ new ∷ []) i ≡ Some x → P i x
each_more P xs new each last i x here =
    ⊎_elim
    (λ (h : i < length xs). each i x (sym (front_only xs (new ∷ []) i h) ∙ here))
    (λ (h : length xs ≤ i).
    let below = slice_get_within (xs ++ new ∷ []) i x here in
    let many = length_push xs new in
    let is : i ≡ length xs + 0 = omega arith in
    let is_i : length xs ≡ i = omega arith in
    let same : new ≡ x = same_Some new x (sym (at_back xs (new ∷ []) 0) ∙ ap (slice_get (xs ++ new ∷ [])) (sym is) ∙ here) in
    subst (λ n. P n x) is_i (subst (P (length xs)) same last))
    (cases_lt i (length xs))
