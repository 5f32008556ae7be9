-- Lists and tests, as far as std has them not.
use Rattle.std.proofs.Common.{◌≡◌, ℕ, zero, suc, ◌+◌, ◌<◌, ◌≤◌, true, false, List, [], ◌∷◌, ◌++◌, length, take, drop, get_or, map, refl, ap, subst, arith, length-drop}
use Rattle.std.specs.Prelude.{◌==◌, AllPairs, nat_le, nat_lt}
use Rattle.std.specs.List.{flat_map, enumerate_from, range_with_len, AllByRecursion}
use Rattle.std.proofs.lemmas.Bool.Decides.{nat_tests}
use Rattle.raw_set_text.specs.Listing.{paired}

-- tests of numbers
pub is_less : (a b : ℕ) → a < b → nat_lt a b ≡ true
is_less a b lt = grind (arith, nat_tests)

pub not_less : (a b : ℕ) → b ≤ a → nat_lt a b ≡ false
not_less a b le = grind (arith, nat_tests)

pub is_most : (a b : ℕ) → a ≤ b → nat_le a b ≡ true
is_most a b le = grind (arith, nat_tests)

pub is_itself : (a : ℕ) → (a == a) ≡ true
is_itself a = grind (arith, nat_tests)

-- a list without elements
pub none_left : {X : Type 0} (xs : List X) → length xs ≡ 0 → xs ≡ []
none_left [] e = refl
none_left (x ∷ xs) e = absurd (omega arith)

-- what holds of each element and each later one, by recursion
abbrev pub AllLater : {X : Type 0} → (X → X → Type 0) → List X → Type 0
AllLater R [] = Unit {0}
AllLater R (x ∷ xs) = AllByRecursion (R x) xs × AllLater R xs

-- what holds of each element
pub all_gives : {X : Type 0} (P Q : X → Type 0) → ((x : X) → P x → Q x) → (xs : List X) → AllByRecursion P xs → AllByRecursion Q xs
all_gives P Q gives [] all = tt
all_gives P Q gives (x ∷ xs) all = (gives x all.0, all_gives P Q gives xs all.1)

pub all_join : {X : Type 0} (P : X → Type 0) (a b : List X) → AllByRecursion P a → AllByRecursion P b → AllByRecursion P (a ++ b)
all_join P [] b all more = more
all_join P (x ∷ a) b all more = (all.0, all_join P a b all.1 more)

pub all_mapped : {X Y : Type 0} (P : Y → Type 0) (f : X → Y) (xs : List X) → AllByRecursion (λ x. P (f x)) xs → AllByRecursion P (map f xs)
all_mapped P f [] all = tt
all_mapped P f (x ∷ xs) all = (all.0, all_mapped P f xs all.1)

pub all_grouped : {X Y : Type 0} (P : Y → Type 0) (f : X → List Y) (xs : List X) → AllByRecursion (λ x. AllByRecursion P (f x)) xs → AllByRecursion P (flat_map f xs)
all_grouped P f [] all = tt
all_grouped P f (x ∷ xs) all = all_join P (f x) (flat_map f xs) all.0 (all_grouped P f xs all.1)

pub all_of : {X : Type 0} (P : X → Type 0) (xs : List X) → ((j : ℕ) (d : X) → j < length xs → P (get_or xs j d)) → AllByRecursion P xs
all_of P [] each = tt
all_of P (x ∷ xs) each = (each 0 x (omega arith), all_of P xs (λ j d lt. each (suc j) d (omega arith)))

pub all_numbered : {X : Type 0} (P : ℕ × X → Type 0) (xs : List X) (from : ℕ) → ((j : ℕ) (d : X) → j < length xs → P (from + j, get_or xs j d)) → AllByRecursion P (enumerate_from from xs)
all_numbered P [] from each = tt
all_numbered P (x ∷ xs) from each =
    let first : from + 0 ≡ from = omega arith in (
      subst (λ n. P (n, x)) first (each 0 x (omega arith)),
      all_numbered P xs (from + 1) (λ j d lt. let e : from + suc j ≡ from + 1 + j = omega arith in subst (λ n. P (n, get_or xs j d)) e (each (suc j) d (omega arith))),
    )

pub all_paired : {X Y : Type 0} (P : X × Y → Type 0) (xs : List X) (ys : List Y) → ((j : ℕ) (d : X) (e : Y) → j < length xs → j < length ys → P (get_or xs j d, get_or ys j e)) → AllByRecursion P (paired xs ys)
all_paired P [] ys each = tt
all_paired P (x ∷ xs) [] each = tt
all_paired P (x ∷ xs) (y ∷ ys) each = (each 0 x y (omega arith) (omega arith), all_paired P xs ys (λ j d e lt le. each (suc j) d e (omega arith) (omega arith)))

pub all_taken : {X : Type 0} (P : X → Type 0) (n : ℕ) (xs : List X) → AllByRecursion P xs → AllByRecursion P (take n xs)
all_taken P zero xs all = tt
all_taken P (suc n) [] all = tt
all_taken P (suc n) (x ∷ xs) all = (all.0, all_taken P n xs all.1)

pub all_dropped : {X : Type 0} (P : X → Type 0) (n : ℕ) (xs : List X) → AllByRecursion P xs → AllByRecursion P (drop n xs)
all_dropped P zero xs all = all
all_dropped P (suc n) [] all = tt
all_dropped P (suc n) (x ∷ xs) all = all_dropped P n xs all.1

-- what holds of each piece of a list
pub all_ranged : {X : Type 0} (P : X → Type 0) (f : ℕ → X) (from count : ℕ) → ((n : ℕ) → n < from + count → P (f n)) → AllByRecursion P (map f (range_with_len from count))
all_ranged P f from zero each = tt
all_ranged P f from (suc count) each = (each from (omega arith), all_ranged P f (from + 1) count (λ n lt. each n (omega arith)))

pub later_is : {X : Type 0} (R : X → X → Type 0) (xs : List X) → AllPairs R xs → AllLater R xs
later_is R [] pairs = tt
later_is R (x ∷ xs) pairs =
    (all_of (R x) xs (λ j d lt. pairs 0 (suc j) d (omega arith) (omega arith)), later_is R xs (λ i j d lt within. pairs (suc i) (suc j) d (omega arith) (omega arith)))

-- an element between others, and an end
pub at_place : {X : Type 0} (P : X → Type 0) (front : List X) (x : X) (back : List X) → AllByRecursion P (front ++ x ∷ back) → P x
at_place P [] x back all = all.0
at_place P (y ∷ front) x back all = at_place P front x back all.1

pub nothing_left : {X : Type 0} (xs : List X) (n : ℕ) → drop n xs ≡ [] → length xs ≤ n
nothing_left xs n e = let long = length-drop n xs in let none = ap length e in omega arith
