-- What holds of lists that are made of another list's elements, and sums over them.
use Rattle.std.proofs.Common.{◌≡◌, ◌≢◌, ℕ, zero, suc, ◌+◌, ◌-◌, ◌*◌, ◌<◌, ◌≤◌, Bool, true, false, ◌&&◌, cond, eqb, ltb, leb, List, [], ◌∷◌, length, get_or, map, Option, Some, None, refl, sym, ap, ◌∙◌, arith, ⊎_elim, sum_by}
use Rattle.std.specs.List.{All, AllPairs, flat_map, filter_map, cons_option, range_with_len}
use Rattle.std.proofs.lemmas.Bool.{cases_Bool}
use Rattle.std.proofs.lemmas.Option.{none-some}
use Rattle.std.proofs.lemmas.Bool.Decides.{nat_tests}
use Rattle.std.proofs.lemmas.List.Elements.{All-nil, All-head, All-tail, All-append}
use Rattle.std.proofs.lemmas.List.Sums.{sum_by-cons}
use Rattle.raw_grid.proofs.Lists.{All-cons_option}

-- what holds of each element holds in turn of what a test makes of it
pub all_filter_map : {X Y : Type 0} (Q : X → Type 0) (P : Y → Type 0) (g : X → Option Y) → ((x : X) (y : Y) → Q x → g x ≡ Some y → P y) → (xs : List X) → All Q xs → All P (filter_map g xs)
all_filter_map Q P g h [] q = All-nil P
all_filter_map Q P g h (x ∷ xs) q =
    All-cons_option P (g x) (filter_map g xs) (λ y. h x y (All-head Q x xs q)) (all_filter_map Q P g h xs (All-tail Q x xs q))

pub all_flat_map : {X Y : Type 0} (Q : X → Type 0) (P : Y → Type 0) (f : X → List Y) → ((x : X) → Q x → All P (f x)) → (xs : List X) → All Q xs → All P (flat_map f xs)
all_flat_map Q P f h [] q = All-nil P
all_flat_map Q P f h (x ∷ xs) q = All-append P (f x) (flat_map f xs) (h x (All-head Q x xs q)) (all_flat_map Q P f h xs (All-tail Q x xs q))

-- under a test
pub all_if : {Y : Type 0} (P : Y → Type 0) (b : Bool) (ys : List Y) → All P ys → All P (cond b ys [])
all_if P true ys h = h
all_if P false ys h = All-nil P

pub length_if : {Y : Type 0} (b : Bool) (ys : List Y) → length (cond b ys []) ≡ cond b (length ys) 0
length_if true ys = refl
length_if false ys = refl

-- an option under a test has a value
pub if_inv : {A : Type 0} (b : Bool) (o : Option A) (x : A) → cond b o None ≡ Some x → (b ≡ true) × (o ≡ Some x)
if_inv true o x e = (refl, e)
if_inv false o x e = absurd (none-some x e)

-- the first of a list, or another where there is none
pub first_holds : {Y : Type 0} (P : Y → Type 0) (other : Y) (ys : List Y) → P other → All P ys → P (get_or ys 0 other)
first_holds P other [] none h = none
first_holds P other (y ∷ ys) none h = All-head P y ys h

same_function : {X : Type 0} (f g : X → ℕ) → ((x : X) → f x ≡ g x) → f ≡ g
same_function f g h = λ i. λ x. h x i

pub sum_same : {X : Type 0} (f g : X → ℕ) → ((x : X) → f x ≡ g x) → (xs : List X) → sum_by f xs ≡ sum_by g xs
sum_same f g h xs = ap (λ e. sum_by e xs) (same_function f g h)

pub sum_none : {X : Type 0} (xs : List X) → sum_by (λ (x : X). 0) xs ≡ 0
sum_none [] = refl
sum_none {X = X} (x ∷ xs) = omega (arith, sum_by-cons (λ (y : X). 0) x xs, sum_none xs)

sum_add : {X : Type 0} (f g : X → ℕ) (xs : List X) → sum_by (λ x. f x + g x) xs ≡ sum_by f xs + sum_by g xs
sum_add f g [] = refl
sum_add {X = X} f g (x ∷ xs) = omega (arith, sum_by-cons (λ (y : X). f y + g y) x xs, sum_by-cons f x xs, sum_by-cons g x xs, sum_add f g xs)

-- a sum of sums, in either order
pub sum_swap : {X S : Type 0} (f : S → X → ℕ) (ss : List S) (xs : List X) → sum_by (λ s. sum_by (f s) xs) ss ≡ sum_by (λ x. sum_by (λ s. f s x) ss) xs
sum_swap f ss [] = sum_none ss
sum_swap f ss (x ∷ xs) =
    sum_same (λ s. sum_by (f s) (x ∷ xs)) (λ s. f s x + sum_by (f s) xs) (λ s. sum_by-cons (f s) x xs) ss
    ∙ sum_add (λ s. f s x) (λ s. sum_by (f s) xs) ss
    ∙ ap (λ n. sum_by (λ s. f s x) ss + n) (sum_swap f ss xs)
    ∙ sym (sum_by-cons (λ y. sum_by (λ s. f s y) ss) x xs)

-- a sum of larger terms is larger
pub sum_le : {X : Type 0} (Q : X → Type 0) (f g : X → ℕ) → ((x : X) → Q x → f x ≤ g x) → (xs : List X) → All Q xs → sum_by f xs ≤ sum_by g xs
sum_le Q f g h [] q = omega arith
sum_le Q f g h (x ∷ xs) q = omega (arith, sum_by-cons f x xs, sum_by-cons g x xs, h x (All-head Q x xs q), sum_le Q f g h xs (All-tail Q x xs q))

pub sum_map : {X Y : Type 0} (f : Y → ℕ) (g : X → Y) (xs : List X) → sum_by f (map g xs) ≡ sum_by (λ x. f (g x)) xs
sum_map f g [] = refl
sum_map f g (x ∷ xs) = sum_by-cons f (g x) (map g xs) ∙ ap (λ n. f (g x) + n) (sum_map f g xs) ∙ sym (sum_by-cons (λ y. f (g y)) x xs)

-- the number of elements of an option
abbrev pub size_or : {Y : Type 0} → (Y → ℕ) → Option Y → ℕ
size_or size None = 0
size_or size (Some y) = size y

sum_cons_option : {Y : Type 0} (size : Y → ℕ) (o : Option Y) (ys : List Y) → sum_by size (cons_option o ys) ≡ size_or size o + sum_by size ys
sum_cons_option size None ys = omega arith
sum_cons_option size (Some y) ys = sum_by-cons size y ys

-- the sum over what a test makes of a list
pub sum_filter_map : {X Y : Type 0} (size : Y → ℕ) (g : X → Option Y) (xs : List X) → sum_by size (filter_map g xs) ≡ sum_by (λ x. size_or size (g x)) xs
sum_filter_map size g [] = refl
sum_filter_map size g (x ∷ xs) =
    sum_cons_option size (g x) (filter_map g xs) ∙ ap (λ n. size_or size (g x) + n) (sum_filter_map size g xs) ∙ sym (sum_by-cons (λ y. size_or size (g y)) x xs)

-- a list's length as a sum
pub length_sum : {Y : Type 0} (ys : List Y) → length ys ≡ sum_by (λ (y : Y). 1) ys
length_sum [] = refl
length_sum {Y = Y} (y ∷ ys) = omega (arith, length_sum ys, sum_by-cons (λ (z : Y). 1) y ys)

-- the first of a list has at most the size of all
pub first_le : {Y : Type 0} (size : Y → ℕ) (other : Y) (ys : List Y) → size other ≡ 0 → size (get_or ys 0 other) ≤ sum_by size ys
first_le size other [] e = omega (arith, e)
first_le size other (y ∷ ys) e = omega (arith, sum_by-cons size y ys)

-- a number stands at most once in a range
none_before : (m v a n : ℕ) → m < a → sum_by (λ t. cond (eqb m t) v 0) (range_with_len a n) ≡ 0
none_before m v a zero h = refl
none_before m v a (suc n) h =
    let no : eqb m a ≡ false = grind (arith, nat_tests) in
    let head : cond (eqb m a) v 0 ≡ 0 = rw no refl in
    omega (arith, head, sum_by-cons (λ t. cond (eqb m t) v 0) a (range_with_len (a + 1) n), none_before m v (a + 1) n (omega arith))

pub at_once : (m v a n : ℕ) → sum_by (λ t. cond (eqb m t) v 0) (range_with_len a n) ≤ v
at_once m v a zero = omega arith
at_once m v a (suc n) =
    let whole = sum_by-cons (λ t. cond (eqb m t) v 0) a (range_with_len (a + 1) n) in
    ⊎_elim
    (λ (yes : eqb m a ≡ true).
    let here : m ≡ a = grind (arith, nat_tests) in
    let head : cond (eqb m a) v 0 ≡ v = rw yes refl in
    omega (arith, whole, head, none_before m v (a + 1) n (omega arith)))
    (λ (no : eqb m a ≡ false).
    let head : cond (eqb m a) v 0 ≡ 0 = rw no refl in
    omega (arith, whole, head, at_once m v (a + 1) n))
    (cases_Bool (eqb m a))

-- so many numbers of a range are among m from s on
ind_le : (s m a : ℕ) → cond (leb (4 * s) (4 * a) && ltb (4 * a) (4 * s + 4 * m)) 1 0 + (m - (a + 1 - s)) ≤ m - (a - s)
ind_le s m a =
    ⊎_elim
    (λ (yes : (leb (4 * s) (4 * a) && ltb (4 * a) (4 * s + 4 * m)) ≡ true).
    let low : 4 * s ≤ 4 * a = grind (arith, nat_tests) in
    let high : 4 * a < 4 * s + 4 * m = grind (arith, nat_tests) in
    rw yes (omega arith))
    (λ (no : (leb (4 * s) (4 * a) && ltb (4 * a) (4 * s + 4 * m)) ≡ false). rw no (omega arith))
    (cases_Bool (leb (4 * s) (4 * a) && ltb (4 * a) (4 * s + 4 * m)))

pub inside_count : (s m a n : ℕ) → sum_by (λ i. cond (leb (4 * s) (4 * i) && ltb (4 * i) (4 * s + 4 * m)) 1 0) (range_with_len a n) ≤ m - (a - s)
inside_count s m a zero = omega arith
inside_count s m a (suc n) =
    let f : ℕ → ℕ = λ i. cond (leb (4 * s) (4 * i) && ltb (4 * i) (4 * s + 4 * m)) 1 0 in
    omega (arith, sum_by-cons f a (range_with_len (a + 1) n), ind_le s m a, inside_count s m (a + 1) n)

-- of elements that differ, at most one is the same as another
none_same : {X : Type 0} (same : X → Bool) (v : ℕ) (x : X) → same x ≡ true → ((y z : X) → same y ≡ true → same z ≡ true → y ≡ z) → (xs : List X) → All (λ y. x ≢ y) xs → sum_by (λ y. cond (same y) v 0) xs ≡ 0
none_same same v x is one [] h = refl
none_same same v x is one (y ∷ ys) h =
    ⊎_elim
    (λ (yes : same y ≡ true). absurd (All-head (λ z. x ≢ z) y ys h (one x y is yes)))
    (λ (no : same y ≡ false).
    let head : cond (same y) v 0 ≡ 0 = rw no refl in
    omega (arith, head, sum_by-cons (λ z. cond (same z) v 0) y ys, none_same same v x is one ys (All-tail (λ z. x ≢ z) y ys h)))
    (cases_Bool (same y))

pub same_once : {X : Type 0} (same : X → Bool) (v : ℕ) → ((y z : X) → same y ≡ true → same z ≡ true → y ≡ z) → (xs : List X) → AllPairs (λ a b. a ≢ b) xs → sum_by (λ y. cond (same y) v 0) xs ≤ v
same_once same v one [] h = omega arith
same_once same v one (x ∷ xs) h =
    let whole = sum_by-cons (λ z. cond (same z) v 0) x xs in
    ⊎_elim
    (λ (yes : same x ≡ true).
    let head : cond (same x) v 0 ≡ v = rw yes refl in
    let apart : All (λ y. x ≢ y) xs = λ k d l. h 0 (suc k) d (omega arith) (omega arith) in
    omega (arith, whole, head, none_same same v x yes one xs apart))
    (λ (no : same x ≡ false).
    let head : cond (same x) v 0 ≡ 0 = rw no refl in
    let rest : AllPairs (λ a b. a ≢ b) xs = λ i j d l m. h (suc i) (suc j) d (omega arith) (omega arith) in
    omega (arith, whole, head, same_once same v one xs rest))
    (cases_Bool (same x))
