-- Lists that get one element more.
use Rattle.std.proofs.Common.{Vec, ◌≡◌, ◌⊎◌, ℕ, zero, suc, ◌<◌, false, ltb, List, [], ◌∷◌, ◌++◌, length, get_or, Option, Some, None, refl, sym, ap, ◌∙◌, inl, inr, arith}
use Rattle.std.proofs.lemmas.Bool.{lt-ltb}
use Rattle.std.proofs.lemmas.Option.{slice_get_read}
use Rattle.std.specs.Option.{option_map, option_or, is_some, unwrap_or}
use Rattle.std.specs.List.{filter_map, cons_option, slice_get}
use Rattle.std.proofs.Math.ListN.{set}

-- one value, or none, stands first in its list
first_one : {Y : Type 0} (o : Option Y) → slice_get (cons_option o []) 0 ≡ o
first_one None = refl
first_one (Some y) = refl

first_cons : {Y : Type 0} (o v : Option Y) (xs ys : List Y) → slice_get ys 0 ≡ option_or (slice_get xs 0) v → slice_get (cons_option o ys) 0 ≡ option_or (slice_get (cons_option o xs) 0) v
first_cons None v xs ys h = h
first_cons (Some y) v xs ys h = refl

-- the first that is given: by the earlier elements, or else by this one
pub first_next : {X Y : Type 0} (f : X → Option Y) (xs : List X) (x : X) → slice_get (filter_map f (xs ++ x ∷ [])) 0 ≡ option_or (slice_get (filter_map f xs) 0) (f x)
first_next f [] x = first_one (f x)
first_next f (y ∷ ys) x = first_cons (f y) (f x) (filter_map f ys) (filter_map f (ys ++ x ∷ [])) (first_next f ys x)

-- the same by another function that is equal, and from what stands for the first so far
pub first_kept : {X Y : Type 0} (f g : X → Option Y) (xs : List X) (x : X) (before after : Option Y) → g ≡ f → before ≡ slice_get (filter_map f xs) 0 → after ≡ option_or before (f x) → after ≡ slice_get (filter_map g (xs ++ x ∷ [])) 0
first_kept f g xs x before after same h e =
    e ∙ ap (λ o. option_or o (f x)) h ∙ sym (first_next f xs x) ∙ ap (λ k. slice_get (filter_map k (xs ++ x ∷ [])) 0) (sym same)

-- the first element stays where elements come behind it
pub head_kept : {A : Type 0} (xs ys : List A) (d : A) → 0 < length xs → get_or (xs ++ ys) 0 d ≡ get_or xs 0 d
head_kept [] ys d h = absurd (omega arith)
head_kept (x ∷ xs) ys d h = refl

-- there is a first exactly where the list is not empty
pub some_first : {A B : Type 0} (v : A → B) (o : Option A) (xs : List B) → option_map v o ≡ slice_get xs 0 → is_some o ≡ ltb 0 (length xs)
some_first v None [] h = refl
some_first v None (x ∷ xs) h = cc
some_first v (Some a) [] h = cc
some_first v (Some a) (x ∷ xs) h = sym (lt-ltb 0 (length (x ∷ xs)) (omega arith))

pub some_head : {A : Type 0} (xs : List A) → is_some (slice_get xs 0) ≡ ltb 0 (length xs)
some_head [] = refl
some_head (x ∷ xs) = sym (lt-ltb 0 (length (x ∷ xs)) (omega arith))

-- an option without a value
pub no_value : {A : Type 0} (o : Option A) → is_some o ≡ false → o ≡ None
no_value None e = refl
no_value (Some a) e = cc

-- the first, or that one where there is none
pub unwrap_first : {A : Type 0} (o : Option A) (xs : List A) (d : A) → o ≡ slice_get xs 0 → unwrap_or o d ≡ get_or xs 0 d
unwrap_first o [] d h = ap (λ v. unwrap_or v d) h
unwrap_first o (x ∷ xs) d h = ap (λ v. unwrap_or v d) h

pub or_none : {A : Type 0} (o v : Option A) → v ≡ None → o ≡ option_or o v
or_none None v h = sym h
or_none (Some a) v h = refl

-- an element of a list in which one place was written
pub get_set_same : {A : Type 0} (xs : List A) (t : ℕ) (y x : A) → slice_get (set xs t y) t ≡ Some x → x ≡ y
get_set_same [] t y x h = cc
get_set_same (z ∷ zs) zero y x h = cc
get_set_same (z ∷ zs) (suc t) y x h = get_set_same zs t y x h

pub get_set_other : {A : Type 0} (xs : List A) (t u : ℕ) (y : A) → (u ≡ t → ⊥) → slice_get (set xs t y) u ≡ slice_get xs u
get_set_other [] t u y h = refl
get_set_other (z ∷ zs) zero zero y h = absurd (h refl)
get_set_other (z ∷ zs) zero (suc u) y h = refl
get_set_other (z ∷ zs) (suc t) zero y h = refl
get_set_other (z ∷ zs) (suc t) (suc u) y h = get_set_other zs t u y (λ e. h (ap suc e))

-- the other order, where one of two is none
pub or_swapped : {A : Type 0} (o v : Option A) → (v ≡ None) ⊎ (o ≡ None) → option_or v o ≡ option_or o v
or_swapped None None h = refl
or_swapped None (Some b) h = refl
or_swapped (Some a) None h = refl
or_swapped (Some a) (Some b) (inl h) = cc
or_swapped (Some a) (Some b) (inr h) = cc

-- the items of a list, or none where there is no list
pub unwrapped : {A B : Type 0} (o : Option (Vec A B)) (empty got : Vec A B) → got ≡ unwrap_or o empty → empty.items ≡ [] → got.items ≡ unwrap_or (option_map (λ v. v.items) o) []
unwrapped None empty got e h = ap (λ v. v.items) e ∙ h
unwrapped (Some v) empty got e h = ap (λ v. v.items) e

-- what is read twice at one place is the same
pub read_same : {A : Type 0} (xs : List A) (t : ℕ) (x y : A) → t < length xs → x ≡ get_or xs t x → y ≡ get_or xs t y → x ≡ y
read_same xs t x y h a b =
    let first : slice_get xs t ≡ Some x = slice_get_read xs _ t x refl h a in
    let second : slice_get xs t ≡ Some y = slice_get_read xs _ t y refl h b in
    cc
