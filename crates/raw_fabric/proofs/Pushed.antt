-- Lists with one element more.
use Rattle.std.proofs.Common.{◌≡◌, ℕ, zero, suc, List, [], ◌∷◌, ◌++◌, length, Some, subst}
use Rattle.std.specs.Prelude.{slice_get}
use Rattle.std.proofs.lemmas.Option.{same_Some}

-- what is so of each element is so with one more
pub at_push : {X : Type 0} (P : ℕ → X → Type 0) (xs : List X) (y : X) → ((i : ℕ) (x : X) → slice_get xs i ≡ Some x → P i x) → P (length xs) y
    → (i : ℕ) (x : X) → slice_get (xs ++ y ∷ []) i ≡ Some x → P i x
at_push P [] y all h zero x e = subst (P 0) (same_Some y x e) h
at_push P [] y all h (suc i) x e = absurd (cc e)
at_push P (z ∷ xs) y all h zero x e = all 0 x e
at_push P (z ∷ xs) y all h (suc i) x e = at_push (λ j. P (suc j)) xs y (λ j. all (suc j)) h i x e
