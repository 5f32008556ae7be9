-- The second line that has tokens.
use Rattle.std.proofs.Common.{◌≡◌, ℕ, zero, suc, ◌<◌, Bool, true, false, cond, List, [], ◌∷◌, length, get_or, take, refl, sym, arith}
use Rattle.std.specs.List.{filter}

-- the element that passes behind so many others that do
pub passes_at : {X : Type 0} (p : X → Bool) (d : X) (xs : List X) (k n : ℕ) → k < length xs → length (filter p (take k xs)) ≡ n → p (get_or xs k d) ≡ true → get_or (filter p xs) n d ≡ get_or xs k d
passes_at p d [] k n lt e passes = absurd (omega (arith, lt))
passes_at p d (x ∷ xs) zero n lt e passes = rw (passes, sym e) refl
passes_at p d (x ∷ xs) (suc k) n lt e passes = by (p x) n (λ m f. passes_at p d xs k m (omega (arith, lt)) f passes) e where
  by : (b : Bool) (m : ℕ) → ((j : ℕ) → length (filter p (take k xs)) ≡ j → get_or (filter p xs) j d ≡ get_or xs k d)
      → length (cond b (x ∷ filter p (take k xs)) (filter p (take k xs))) ≡ m → get_or (cond b (x ∷ filter p xs) (filter p xs)) m d ≡ get_or xs k d
  by true zero rest f = absurd (omega (arith, f))
  by true (suc m) rest f = rest m (omega (arith, f))
  by false m rest f = rest m f
