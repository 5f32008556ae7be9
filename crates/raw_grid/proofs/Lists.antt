-- What holds of all elements, or of all pairs, of lists that are made part by part.
use Rattle.std.proofs.Common.{◌≡◌, ℕ, suc, zero, ◌+◌, ◌*◌, ◌<◌, ◌≤◌, List, [], ◌∷◌, ◌++◌, length, get_or, take, Option, Some, None, refl, sym, ◌∙◌, ap, subst, ⊎_elim, arith}
use Rattle.std.specs.List.{All, AllPairs, Contains, flat_map, filter_map, cons_option, range_with_len}
use Rattle.std.proofs.lemmas.Bool.{cases_eq}
use Rattle.std.proofs.lemmas.List.{length-append, length-take-le}
use Rattle.std.proofs.lemmas.List.Concat.{get_or-flat_map}
use Rattle.std.proofs.lemmas.List.Elements.{All-nil, All-cons, All-append, All-head, All-tail, Contains-append_left, Contains-append_right}
use Rattle.std.proofs.lemmas.List.FromFn.{length-range_with_len, get_or-range_with_len}
use Rattle.std.proofs.lemmas.List.Kept.{AllPairs-cons}

pub AllPairs-nil : {X : Type 0} (R : X → X → Type 0) → AllPairs R []
AllPairs-nil R i j d h k = absurd (omega arith)

pub AllPairs-head : {X : Type 0} (R : X → X → Type 0) (x : X) (xs : List X) → AllPairs R (x ∷ xs) → All (R x) xs
AllPairs-head R x xs h k d l = h 0 (suc k) d (omega arith) (omega arith)

pub AllPairs-tail : {X : Type 0} (R : X → X → Type 0) (x : X) (xs : List X) → AllPairs R (x ∷ xs) → AllPairs R xs
AllPairs-tail R x xs h i j d l m = h (suc i) (suc j) d (omega arith) (omega arith)

-- two parts, and each element of the first beside each of the second
pub AllPairs-append : {X : Type 0} (R : X → X → Type 0) (xs ys : List X) → AllPairs R xs → AllPairs R ys → All (λ x. All (R x) ys) xs → AllPairs R (xs ++ ys)
AllPairs-append R [] ys p q c = q
AllPairs-append R (x ∷ xs) ys p q c =
    AllPairs-cons R x (xs ++ ys)
    (All-append (R x) xs ys (AllPairs-head R x xs p) (All-head (λ z. All (R z) ys) x xs c))
    (AllPairs-append R xs ys (AllPairs-tail R x xs p) q (All-tail (λ z. All (R z) ys) x xs c))

pub All-flat_map : {X : Type 0} (P : X → Type 0) (f : ℕ → List X) (a n : ℕ) → ((k : ℕ) → a ≤ k → k < a + n → All P (f k)) → All P (flat_map f (range_with_len a n))
All-flat_map P f a zero h = All-nil P
All-flat_map P f a (suc n) h =
    All-append P (f a) (flat_map f (range_with_len (a + 1) n)) (h a (omega arith) (omega arith)) (All-flat_map P f (a + 1) n (λ k l m. h k (omega arith) (omega arith)))

pub AllPairs-flat_map : {X : Type 0} (R : X → X → Type 0) (f : ℕ → List X) (a n : ℕ) → ((k : ℕ) → a ≤ k → k < a + n → AllPairs R (f k)) → ((j k : ℕ) → j < k → k < a + n → All (λ x. All (R x) (f k)) (f j)) → AllPairs R (flat_map f (range_with_len a n))
AllPairs-flat_map R f a zero own across = AllPairs-nil R
AllPairs-flat_map R f a (suc n) own across =
    let rest = flat_map f (range_with_len (a + 1) n) in
    AllPairs-append R (f a) rest (own a (omega arith) (omega arith))
    (AllPairs-flat_map R f (a + 1) n (λ k l m. own k (omega arith) (omega arith)) (λ j k l m. across j k l (omega arith)))
    (λ i d l. All-flat_map (R (get_or (f a) i d)) f (a + 1) n (λ k m o. across a k (omega arith) (omega arith) i d l))

pub All-cons_option : {Y : Type 0} (P : Y → Type 0) (o : Option Y) (ys : List Y) → ((y : Y) → o ≡ Some y → P y) → All P ys → All P (cons_option o ys)
All-cons_option P None ys one rest = rest
All-cons_option P (Some y) ys one rest = All-cons P y ys (one y refl) rest

pub All-filter_map : {X Y : Type 0} (P : Y → Type 0) (g : X → Option Y) (xs : List X) → ((x : X) (y : Y) → g x ≡ Some y → P y) → All P (filter_map g xs)
All-filter_map P g [] h = All-nil P
All-filter_map P g (x ∷ xs) h = All-cons_option P (g x) (filter_map g xs) (h x) (All-filter_map P g xs h)

-- the same, where what is known of x is known of the elements behind it
All-filter_map-rest : {X Y : Type 0} (Q : X → Type 0) (P : Y → Type 0) (g : X → Option Y) (xs : List X) → All Q xs → ((x : X) (y : Y) → Q x → g x ≡ Some y → P y) → All P (filter_map g xs)
All-filter_map-rest Q P g [] q h = All-nil P
All-filter_map-rest Q P g (x ∷ xs) q h =
    All-cons_option P (g x) (filter_map g xs) (λ y. h x y (All-head Q x xs q)) (All-filter_map-rest Q P g xs (All-tail Q x xs q) h)

pub AllPairs-cons_option : {Y : Type 0} (R : Y → Y → Type 0) (o : Option Y) (ys : List Y) → ((y : Y) → o ≡ Some y → All (R y) ys) → AllPairs R ys → AllPairs R (cons_option o ys)
AllPairs-cons_option R None ys one rest = rest
AllPairs-cons_option R (Some y) ys one rest = AllPairs-cons R y ys (one y refl) rest

pub AllPairs-filter_map : {X Y : Type 0} (Q : X → X → Type 0) (R : Y → Y → Type 0) (g : X → Option Y) (xs : List X) → AllPairs Q xs → ((a b : X) (x y : Y) → Q a b → g a ≡ Some x → g b ≡ Some y → R x y) → AllPairs R (filter_map g xs)
AllPairs-filter_map Q R g [] q h = AllPairs-nil R
AllPairs-filter_map Q R g (a ∷ xs) q h =
    AllPairs-cons_option R (g a) (filter_map g xs)
    (λ x e. All-filter_map-rest (Q a) (R x) g xs (AllPairs-head Q a xs q) (λ b y r f. h a b x y r e f))
    (AllPairs-filter_map Q R g xs (AllPairs-tail Q a xs q) h)

Contains-cons_option : {Y : Type 0} (o : Option Y) (ys : List Y) (y : Y) → o ≡ Some y → Contains (cons_option o ys) y
Contains-cons_option None ys y e = cc
Contains-cons_option (Some z) ys y e = (0, omega arith, cc)

Contains-skip : {Y : Type 0} (o : Option Y) (ys : List Y) (y : Y) → Contains ys y → Contains (cons_option o ys) y
Contains-skip None ys y h = h
Contains-skip (Some z) ys y h = (suc h.0, omega (arith, h.1), h.2)

-- what a test gives of an element is in the list of all that it gives
pub Contains-filter_map : {X Y : Type 0} (g : X → Option Y) (xs : List X) (i : ℕ) (d : X) (y : Y) → i < length xs → g (get_or xs i d) ≡ Some y → Contains (filter_map g xs) y
Contains-filter_map g [] i d y l e = absurd (omega arith)
Contains-filter_map g (x ∷ xs) zero d y l e = Contains-cons_option (g x) (filter_map g xs) y e
Contains-filter_map g (x ∷ xs) (suc i) d y l e = Contains-skip (g x) (filter_map g xs) y (Contains-filter_map g xs i d y (omega arith) e)

-- what is in the list of one number of a range is in the list of all
pub Contains-flat_map : {X : Type 0} (f : ℕ → List X) (a n k : ℕ) (x : X) → a ≤ k → k < a + n → Contains (f k) x → Contains (flat_map f (range_with_len a n)) x
Contains-flat_map f a zero k x l m h = absurd (omega arith)
Contains-flat_map f a (suc n) k x l m h =
    ⊎_elim (λ e. Contains-append_left (f a) (flat_map f (range_with_len (a + 1) n)) x (subst (λ j. Contains (f j) x) (sym e) h))
    (λ ne. Contains-append_right (f a) (flat_map f (range_with_len (a + 1) n)) x (Contains-flat_map f (a + 1) n k x (omega arith) (omega arith) h))
    (cases_eq a k)

length-flat_map_four : {X : Type 0} (f : ℕ → List X) → ((k : ℕ) → length (f k) ≡ 4) → (ks : List ℕ) → length (flat_map f ks) ≡ 4 * length ks
length-flat_map_four f h [] = omega arith
length-flat_map_four f h (k ∷ ks) = omega (arith, length-append (f k) (flat_map f ks), h k, length-flat_map_four f h ks)

-- where each number of a range has four elements, those of the k-th stand four times k places on
pub get_or-flat_map_four : {X : Type 0} (f : ℕ → List X) → ((k : ℕ) → length (f k) ≡ 4) → (n k j : ℕ) (d : X) → k < n → j < 4 → (4 * k + j < length (flat_map f (range_with_len 0 n))) × (get_or (flat_map f (range_with_len 0 n)) (4 * k + j) d ≡ get_or (f k) j d)
get_or-flat_map_four f h n k j d l m =
    let ks = range_with_len 0 n in
    let few = length-range_with_len 0 n in
    let before : length (flat_map f (take k ks)) ≡ 4 * k = length-flat_map_four f h (take k ks) ∙ ap (λ z. 4 * z) (length-take-le k ks (omega arith)) in
    let number : get_or ks k 0 ≡ k = get_or-range_with_len 0 n k 0 l ∙ omega arith in (
      omega (arith, length-flat_map_four f h ks),
      ap (λ z. get_or (flat_map f ks) (z + j) d) (sym before) ∙ get_or-flat_map f ks k j 0 d (omega arith) (omega (arith, h (get_or ks k 0))) ∙ ap (λ z. get_or (f z) j d) number,
    )
