-- Halted processors, one after another.
use Rattle.std.proofs.Common.{◌≡◌, ℕ, suc, ◌+◌, ◌<◌, ◌≤◌, false, List, [], ◌∷◌, map, Some, refl, subst, ⊎_elim, arith, ◌∙◌, sym}
use Rattle.std.specs.Prelude.{slice_get}
use Rattle.std.specs.List.{All}
use Rattle.std.proofs.lemmas.Bool.{cases_lt}
use Rattle.std.proofs.lemmas.List.Elements.{All-nil, All-cons}
use Rattle.std.proofs.lemmas.Option.{same_Some}
use Rattle.raw_model.specs.Local.{Local}
use Rattle.raw_model.specs.Outcomes.{is_unhalted}
use Rattle.raw_prove.specs.declared.unit.Unit.{Unit}
use Rattle.raw_prove.specs.Units.{local_of}

-- one more
pub halted_more : (us : List Unit) (p : ℕ) (x : Unit) → slice_get us p ≡ Some x → is_unhalted (local_of x) ≡ false → ((k : ℕ) (y : Unit) → k < p → slice_get us k ≡ Some y → is_unhalted (local_of y) ≡ false)
    → (k : ℕ) (y : Unit) → k < p + 1 → slice_get us k ≡ Some y → is_unhalted (local_of y) ≡ false
halted_more us p x here is each k y below e =
    ⊎_elim (λ (early : k < p). each k y early e)
    (λ (past : p ≤ k).
    let same : k ≡ p = omega (arith, below, past) in
    let there : slice_get us p ≡ Some y = subst (λ (n : ℕ). slice_get us n ≡ Some y) same e in
    subst (λ (z : Unit). is_unhalted (local_of z) ≡ false) (same_Some x y (sym here ∙ there)) is)
    (cases_lt k p)

-- all of them
pub all_halted : (us : List Unit) → ((k : ℕ) (y : Unit) → slice_get us k ≡ Some y → is_unhalted (local_of y) ≡ false) → All (λ (l : Local). is_unhalted l ≡ false) (map local_of us)
all_halted [] h = All-nil (λ (l : Local). is_unhalted l ≡ false)
all_halted (x ∷ us) h = All-cons (λ (l : Local). is_unhalted l ≡ false) (local_of x) (map local_of us) (h 0 x refl) (all_halted us (λ k y e. h (suc k) y e))
