-- Finding elements of lists that are made of pieces.
use Rattle.std.proofs.Common.{◌≡◌, ℕ, zero, suc, ◌+◌, ◌*◌, ◌<◌, List, [], ◌∷◌, ◌++◌, length, map, Some, refl, ap, ◌∙◌, subst, arith}
use Rattle.std.specs.Prelude.{slice_get}
use Rattle.std.specs.List.{flat_map, range_with_len}
use Rattle.std.proofs.lemmas.List.{map-append}
use Rattle.std.proofs.lemmas.Option.{none-some}

module _ {X : Type 0} where
  pub get_left : (xs ys : List X) (i : ℕ) (x : X) → slice_get xs i ≡ Some x → slice_get (xs ++ ys) i ≡ Some x
  get_left [] ys i x e = absurd (none-some x e)
  get_left (y ∷ xs) ys zero x e = e
  get_left (y ∷ xs) ys (suc i) x e = get_left xs ys i x e

  pub get_right : (xs ys : List X) (i : ℕ) (x : X) → slice_get ys i ≡ Some x → slice_get (xs ++ ys) (length xs + i) ≡ Some x
  get_right xs ys i x e = by xs (length xs + i) refl where
    by : (us : List X) (n : ℕ) → n ≡ length us + i → slice_get (us ++ ys) n ≡ Some x
    by [] n f = subst (λ j. slice_get ys j ≡ Some x) (omega (arith, f)) e
    by (u ∷ us) zero f = absurd (omega (arith, f))
    by (u ∷ us) (suc n) f = by us n (omega (arith, f))

  -- an element of the i-th of pieces that are equally long
  pub get_piece : (piece : ℕ → List X) (long : ℕ) → ((r : ℕ) → length (piece r) ≡ long) → (m r i j : ℕ) (x : X) → i < m → slice_get (piece (r + i)) j ≡ Some x
      → slice_get (flat_map piece (range_with_len r m)) (i * long + j) ≡ Some x
  get_piece piece long each zero r i j x below e = absurd (omega (arith, below))
  get_piece piece long each (suc m) r zero j x below e =
      let here : slice_get (piece r) j ≡ Some x = subst (λ k. slice_get (piece k) j ≡ Some x) (omega arith) e in
      subst (λ k. slice_get (flat_map piece (range_with_len r (suc m))) k ≡ Some x) (omega arith) (get_left (piece r) (flat_map piece (range_with_len (r + 1) m)) j x here)
  get_piece piece long each (suc m) r (suc i) j x below e =
      let there : slice_get (piece ((r + 1) + i)) j ≡ Some x = subst (λ k. slice_get (piece k) j ≡ Some x) (omega arith) e in
      let more : slice_get (flat_map piece (range_with_len (r + 1) m)) (i * long + j) ≡ Some x = get_piece piece long each m (r + 1) i j x (omega (arith, below)) there in
      let one : suc i * long ≡ long + i * long = grind arith in
      subst (λ k. slice_get (flat_map piece (range_with_len r (suc m))) k ≡ Some x) (omega (arith, each r, one))
      (get_right (piece r) (flat_map piece (range_with_len (r + 1) m)) (i * long + j) x more)

-- pieces that are mapped one by one
pub map_pieces : {X A B : Type 0} (f : A → B) (g : X → List A) (h : X → List B) (xs : List X) → ((x : X) → map f (g x) ≡ h x) → map f (flat_map g xs) ≡ flat_map h xs
map_pieces f g h [] each = refl
map_pieces f g h (x ∷ xs) each = map-append f (g x) (flat_map g xs) ∙ ap (λ ys. ys ++ map f (flat_map g xs)) (each x) ∙ ap (λ ys. h x ++ ys) (map_pieces f g h xs each)
