-- Elements of lists by their places.
use Rattle.std.proofs.Common.{◌≡◌, ◌≢◌, ℕ, zero, suc, ◌<◌, List, [], ◌∷◌, ◌++◌, Some, length, get_or, set, refl, sym, ap, arith}
use mathlib.Core.Option.{some, some-injective, some-ne-none}
use lib.ListN.{get_elem?}
use Rattle.std.specs.Prelude.{Vec, slice_get, vec_len}
use Rattle.std.specs.declared.alloc.Global.{Global}
use Rattle.std.proofs.lemmas.Option.{slice_get_read}

module _ {A : Type 0} where
  pub set_here : (xs : List A) (i : ℕ) (a : A) → i < length xs → slice_get (set xs i a) i ≡ Some a
  set_here [] i a h = absurd (omega arith)
  set_here (x ∷ xs) zero a h = refl
  set_here (x ∷ xs) (suc i) a h = set_here xs i a (omega arith)

  pub set_there : (xs : List A) (i j : ℕ) (a : A) → j ≢ i → slice_get (set xs i a) j ≡ slice_get xs j
  set_there [] i j a ne = refl
  set_there (x ∷ xs) zero zero a ne = absurd (ne refl)
  set_there (x ∷ xs) zero (suc j) a ne = refl
  set_there (x ∷ xs) (suc i) zero a ne = refl
  set_there (x ∷ xs) (suc i) (suc j) a ne = set_there xs i j a (λ e. ne (ap suc e))

  -- an element is there below the length
  pub there : (xs : List A) (i : ℕ) → i < length xs → (a : A) × (slice_get xs i ≡ Some a)
  there [] i h = absurd (omega arith)
  there (x ∷ xs) zero h = (x, refl)
  there (x ∷ xs) (suc i) h = there xs i (omega arith)

  -- a list with one element more at its end
  pub push_left : (xs : List A) (y : A) (i : ℕ) → i < length xs → slice_get (xs ++ y ∷ []) i ≡ slice_get xs i
  push_left [] y i h = absurd (omega arith)
  push_left (x ∷ xs) y zero h = refl
  push_left (x ∷ xs) y (suc i) h = push_left xs y i (omega arith)

  pub push_last : (xs : List A) (y : A) → slice_get (xs ++ y ∷ []) (length xs) ≡ Some y
  push_last [] y = refl
  push_last (x ∷ xs) y = push_last xs y

-- the element at a place, as a number of a list with a default
pub get_at : {A : Type 0} (xs : List A) (i : ℕ) (a d : A) → get_elem? xs i ≡ some a → get_or xs i d ≡ a
get_at [] i a d e = absurd (some-ne-none a (sym e))
get_at (x ∷ xs) zero a d e = some-injective x a e
get_at (x ∷ xs) (suc i) a d e = get_at xs i a d e

-- an element that was read
pub read_at : {X : Type 0} (v : Vec X Global) (i : ℕ) (x : X) → i < vec_len v → x ≡ get_or v.items i x → slice_get v.items i ≡ Some x
read_at v i x lt is = slice_get_read v.items v.len i x v.ok.0 lt is
