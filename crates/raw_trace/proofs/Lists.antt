-- Lists that are joined of parts, of which one part matters.
use Rattle.std.proofs.Common.{◌≡◌, ℕ, zero, suc, ◌+◌, ◌<◌, ◌≤◌, Bool, List, [], ◌∷◌, ◌++◌, length, map, refl, ap, ◌∙◌, subst, ⊎_elim, arith, append-nil}
use Rattle.std.specs.List.{filter, flat_map, range_with_len, last_or}
use Rattle.std.specs.Prelude.{Option, Some, slice_get}
use Rattle.std.proofs.lemmas.Bool.{cases_eq}
use Rattle.std.proofs.lemmas.Grind.{flat_map-append}
use Rattle.std.proofs.lemmas.Option.{same_Some}
use Rattle.std.proofs.lemmas.List.Elements.{filter-append}
use Rattle.raw_trace.specs.Reading.{last_word}
use Rattle.raw_processor.proofs.Counting.{range_more}

-- what is told of lists that are joined is joined
pub flat_flat : {X Y Z : Type 0} (g : Y → List Z) (f : X → List Y) (xs : List X) → flat_map g (flat_map f xs) ≡ flat_map (λ x. flat_map g (f x)) xs
flat_flat g f [] = refl
flat_flat g f (x ∷ xs) = flat_map-append g (f x) (flat_map f xs) ∙ ap (λ zs. flat_map g (f x) ++ zs) (flat_flat g f xs)

pub filter_flat : {X Y : Type 0} (t : Y → Bool) (f : X → List Y) (xs : List X) → filter t (flat_map f xs) ≡ flat_map (λ x. filter t (f x)) xs
filter_flat t f [] = refl
filter_flat t f (x ∷ xs) = filter-append t (f x) (flat_map f xs) ∙ ap (λ zs. filter t (f x) ++ zs) (filter_flat t f xs)

-- a list of length 0
pub nil_of : {A : Type 0} (xs : List A) → length xs ≡ 0 → xs ≡ []
nil_of [] e = refl
nil_of (x ∷ xs) e = absurd (omega (arith, e))

-- parts that are empty
pub none_of : {X Y : Type 0} (f : X → List Y) → ((x : X) → f x ≡ []) → (xs : List X) → flat_map f xs ≡ []
none_of f none [] = refl
none_of f none (x ∷ xs) = ap (λ ys. ys ++ flat_map f xs) (none x) ∙ none_of f none xs

pub none_above : {X : Type 0} (f : ℕ → List X) (p a n : ℕ) → p < a → ((q : ℕ) → (q ≡ p → ⊥) → f q ≡ []) → flat_map f (range_with_len a n) ≡ []
none_above f p a zero below none = refl
none_above f p a (suc n) below none =
    ap (λ xs. xs ++ flat_map f (range_with_len (a + 1) n)) (none a (λ e. absurd (omega (arith, e, below))))
    ∙ none_above f p (a + 1) n (omega (arith, below)) none

-- one part that is not empty
pub only_one : {X : Type 0} (f : ℕ → List X) (p a n : ℕ) → a ≤ p → p < a + n → ((q : ℕ) → (q ≡ p → ⊥) → f q ≡ []) → flat_map f (range_with_len a n) ≡ f p
only_one f p a zero low high none = absurd (omega (arith, low, high))
only_one f p a (suc n) low high none =
    ⊎_elim
    (λ (here : a ≡ p).
    ap (λ xs. f a ++ xs) (none_above f p (a + 1) n (omega (arith, here)) none) ∙ append-nil (f a) ∙ ap f here)
    (λ (ne : a ≡ p → ⊥).
    ap (λ xs. xs ++ flat_map f (range_with_len (a + 1) n)) (none a ne)
    ∙ only_one f p (a + 1) n (omega (arith, low, ne)) (omega (arith, high)) none)
    (cases_eq a p)

pub more_each : {X : Type 0} (f : ℕ → List X) (a n : ℕ) → flat_map f (range_with_len a (n + 1)) ≡ flat_map f (range_with_len a n) ++ f (a + n)
more_each f a n =
    ap (flat_map f) (range_more a n)
    ∙ flat_map-append f (range_with_len a n) ((a + n) ∷ [])
    ∙ ap (λ xs. flat_map f (range_with_len a n) ++ xs) (append-nil (f (a + n)))

-- the last of words that are joined
pub last_word-append : (d : ℕ) (xs ys : List ℕ) → last_word d (xs ++ ys) ≡ last_word (last_word d xs) ys
last_word-append d [] ys = refl
last_word-append d (x ∷ xs) ys = last_word-append x xs ys

pub last_or-append : {X : Type 0} (o : Option X) (xs ys : List X) → last_or o (xs ++ ys) ≡ last_or (last_or o xs) ys
last_or-append o [] ys = refl
last_or-append o (x ∷ xs) ys = last_or-append (Some x) xs ys

-- of five parts one is left
module _ {X : Type 0} (a b c d e : List X) where
  pub first_left : b ≡ [] → c ≡ [] → d ≡ [] → e ≡ [] → a ++ (b ++ (c ++ (d ++ e))) ≡ a
  first_left hb hc hd he =
      ap (λ xs. a ++ (xs ++ (c ++ (d ++ e)))) hb ∙ ap (λ xs. a ++ (xs ++ (d ++ e))) hc ∙ ap (λ xs. a ++ (xs ++ e)) hd ∙ ap (λ xs. a ++ xs) he ∙ append-nil a

  pub second_left : a ≡ [] → c ≡ [] → d ≡ [] → e ≡ [] → a ++ (b ++ (c ++ (d ++ e))) ≡ b
  second_left ha hc hd he =
      ap (λ xs. xs ++ (b ++ (c ++ (d ++ e)))) ha ∙ ap (λ xs. b ++ (xs ++ (d ++ e))) hc ∙ ap (λ xs. b ++ (xs ++ e)) hd ∙ ap (λ xs. b ++ xs) he ∙ append-nil b

  pub third_left : a ≡ [] → b ≡ [] → d ≡ [] → e ≡ [] → a ++ (b ++ (c ++ (d ++ e))) ≡ c
  third_left ha hb hd he =
      ap (λ xs. xs ++ (b ++ (c ++ (d ++ e)))) ha ∙ ap (λ xs. xs ++ (c ++ (d ++ e))) hb ∙ ap (λ xs. c ++ (xs ++ e)) hd ∙ ap (λ xs. c ++ xs) he ∙ append-nil c

  pub fourth_left : a ≡ [] → b ≡ [] → c ≡ [] → e ≡ [] → a ++ (b ++ (c ++ (d ++ e))) ≡ d
  fourth_left ha hb hc he =
      ap (λ xs. xs ++ (b ++ (c ++ (d ++ e)))) ha ∙ ap (λ xs. xs ++ (c ++ (d ++ e))) hb ∙ ap (λ xs. xs ++ (d ++ e)) hc ∙ ap (λ xs. d ++ xs) he ∙ append-nil d

  pub fifth_left : a ≡ [] → b ≡ [] → c ≡ [] → d ≡ [] → a ++ (b ++ (c ++ (d ++ e))) ≡ e
  fifth_left ha hb hc hd =
      ap (λ xs. xs ++ (b ++ (c ++ (d ++ e)))) ha ∙ ap (λ xs. xs ++ (c ++ (d ++ e))) hb ∙ ap (λ xs. xs ++ (d ++ e)) hc ∙ ap (λ xs. xs ++ e) hd

-- what is told of five parts
pub five_parts : {X Y : Type 0} (g : X → List Y) (a b c d e : List X)
    → flat_map g (a ++ (b ++ (c ++ (d ++ e)))) ≡ flat_map g a ++ (flat_map g b ++ (flat_map g c ++ (flat_map g d ++ flat_map g e)))
five_parts g a b c d e =
    flat_map-append g a (b ++ (c ++ (d ++ e)))
    ∙ ap (λ xs. flat_map g a ++ xs)
    (flat_map-append g b (c ++ (d ++ e))
    ∙ ap (λ xs. flat_map g b ++ xs)
    (flat_map-append g c (d ++ e) ∙ ap (λ xs. flat_map g c ++ xs) (flat_map-append g d e)))

-- what holds of the elements of two lists holds of those of both
pub each_append : {X : Type 0} (P : X → Type 0) (xs ys : List X) → ((i : ℕ) (x : X) → slice_get xs i ≡ Some x → P x)
    → ((i : ℕ) (x : X) → slice_get ys i ≡ Some x → P x) → (i : ℕ) (x : X) → slice_get (xs ++ ys) i ≡ Some x → P x
each_append P [] ys front back i x here = back i x here
each_append P (y ∷ xs) ys front back zero x here = front zero x here
each_append P (y ∷ xs) ys front back (suc i) x here = each_append P xs ys (λ j z there. front (suc j) z there) back i x here

pub each_map : {X Y : Type 0} (P : Y → Type 0) (f : X → Y) → ((x : X) → P (f x)) → (xs : List X) (i : ℕ) (y : Y) → slice_get (map f xs) i ≡ Some y → P y
each_map P f each [] i y here = cc
each_map P f each (x ∷ xs) zero y here = subst P (same_Some (f x) y here) (each x)
each_map P f each (x ∷ xs) (suc i) y here = each_map P f each xs i y here
