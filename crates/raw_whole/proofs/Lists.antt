-- Lists in which one element was put.
use Rattle.std.proofs.Common.{◌≡◌, ℕ, zero, suc, List, [], ◌∷◌, ◌++◌, ◌+◌, ◌<◌, length, take, drop, get_or, Some, refl, sym, ap, ◌∙◌, subst, arith}
use Rattle.std.specs.Prelude.{slice_get, slice_set}
use Rattle.std.proofs.Math.Seq.{take-append_seam}
use Rattle.std.proofs.lemmas.Option.{same_Some, slice_get-get_or}

pub put_same : {X : Type 0} (xs : List X) (p : ℕ) (x y : X) → slice_get (slice_set xs p x) p ≡ Some y → x ≡ y
put_same [] p x y here = absurd (cc here)
put_same (z ∷ xs) zero x y here = same_Some x y here
put_same (z ∷ xs) (suc p) x y here = put_same xs p x y here

pub put_other : {X : Type 0} (xs : List X) (p q : ℕ) (x : X) → (q ≡ p → ⊥) → slice_get (slice_set xs p x) q ≡ slice_get xs q
put_other [] p q x ne = refl
put_other (z ∷ xs) zero zero x ne = absurd (ne refl)
put_other (z ∷ xs) zero (suc q) x ne = refl
put_other (z ∷ xs) (suc p) zero x ne = refl
put_other (z ∷ xs) (suc p) (suc q) x ne = put_other xs p q x (λ e. absurd (omega (arith, ne, e)))

-- what holds of the elements of a list and of one more holds of all
pub push_all : {X : Type 0} (P : X → Type 0) (xs : List X) (x : X) → ((j : ℕ) (z : X) → slice_get xs j ≡ Some z → P z) → P x
    → (i : ℕ) (y : X) → slice_get (xs ++ x ∷ []) i ≡ Some y → P y
push_all P [] x all one zero y here = subst P (same_Some x y here) one
push_all P [] x all one (suc i) y here = absurd (cc here)
push_all P (z ∷ xs) x all one zero y here = all zero y here
push_all P (z ∷ xs) x all one (suc i) y here = push_all P xs x (λ j w there. all (suc j) w there) one i y here

-- what is read at an index stands there
pub stands : {X : Type 0} (xs : List X) (i : ℕ) (x : X) → i < length xs → x ≡ get_or xs i x → slice_get xs i ≡ Some x
stands xs i x below is = slice_get-get_or xs i x below ∙ ap Some (sym is)

-- a vector that is written through a slice of all of it
pub put_back : {X : Type 0} (n : ℕ) (new old : List X) → n ≡ length new → take n (new ++ drop (length new) old) ≡ new
put_back n new old is = ap (λ k. take k (new ++ drop (length new) old)) is ∙ take-append_seam new (drop (length new) old)
