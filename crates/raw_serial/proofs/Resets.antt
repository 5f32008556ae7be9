-- Elements that are made first ones again, one after another.
use Rattle.std.proofs.Common.{◌≡◌, ℕ, ◌+◌, ◌<◌, ◌≤◌, List, set, Some, sym, ap, subst, ◌∙◌, ⊎_elim, arith}
use Rattle.std.specs.Prelude.{slice_get}
use Rattle.std.proofs.lemmas.Bool.{cases_eq}
use Rattle.std.proofs.lemmas.Option.{same_Some}
use Rattle.raw_network.proofs.Wires.{slice_get-set_other, slice_get-set_same}

-- a fact holds of the elements before a place, and the others are as they were
pub record AreReset {X : Type 0} (P : ℕ → X → Type 0) (before now : List X) (n : ℕ) : Type 0 where
  pub first : (i : ℕ) (x : X) → i < n → slice_get now i ≡ Some x → P i x
  pub rest : (i : ℕ) → n ≤ i → slice_get now i ≡ slice_get before i

pub reset_more : {X : Type 0} (P : ℕ → X → Type 0) (before now : List X) (n : ℕ) (old new : X)
    → AreReset P before now n → slice_get now n ≡ Some old → P n new → AreReset P before (set now n new) (n + 1)
reset_more P before now n old new so_far here holds =
    record {
      first = λ i x below e.
          ⊎_elim
          (λ (same : i ≡ n).
          let is : new ≡ x = same_Some new x (sym (slice_get-set_same now n new old here) ∙ ap (slice_get (set now n new)) (sym same) ∙ e) in
          subst (λ k. P k x) (sym same) (subst (P n) is holds))
          (λ (away : i ≡ n → ⊥).
          so_far.first i x (omega (arith, below, away)) (sym (slice_get-set_other now n i new away) ∙ e))
          (cases_eq i n);
      rest = λ i from.
          slice_get-set_other now n i new (λ e. omega (arith, from, e)) ∙ so_far.rest i (omega (arith, from));
    }
