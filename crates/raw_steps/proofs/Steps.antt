-- Steps of a list, and the first that is not enabled.
use Rattle.std.proofs.Common.{◌≡◌, ℕ, suc, zero, ◌+◌, ◌<◌, true, false, List, [], ◌∷◌, ◌++◌, length, take, get_or, Some, refl, sym, ap, ◌∙◌, subst, arith, add-one}
use Rattle.std.specs.Prelude.{slice_get}
use Rattle.raw_grid.specs.declared.parts.ProcId.{ProcId}
use Rattle.raw_model.specs.Program.{ProgramSet}
use Rattle.raw_model.specs.Start.{MachineState}
use Rattle.raw_model.specs.Rest.{enabled, step, IsLawfulFrom, end_from}
use Rattle.raw_serial.specs.Running.{Running}
use Rattle.raw_serial.specs.Leading.{HasTaken}
use Rattle.raw_steps.specs.declared.checking.Why.{Why}
use Rattle.raw_steps.specs.Taking.{numbers}
use Rattle.raw_steps.specs.Checking.{IsWhy, IsFirstUnlawful}

-- the steps up to a place, and one more
pub numbers_more : (ps : List ProcId) (i : ℕ) (d : ProcId) → i < length ps
    → take (i + 1) (numbers ps) ≡ take i (numbers ps) ++ (get_or ps i d).0 ∷ []
numbers_more ps i d below = rw add-one (at_place ps i d below)
  where
    at_place : (ps : List ProcId) (i : ℕ) (d : ProcId) → i < length ps
        → take (suc i) (numbers ps) ≡ take i (numbers ps) ++ (get_or ps i d).0 ∷ []
    at_place [] i d below = absurd (omega arith)
    at_place (q ∷ ps) zero d below = refl
    at_place (q ∷ ps) (suc i) d below = ap (λ xs. q.0 ∷ xs) (at_place ps i d (omega arith))

-- each step of a lawful list is enabled when its turn comes
pub lawful_next : (set : ProgramSet) (s : MachineState) (steps : List ℕ) (i p : ℕ) → IsLawfulFrom set s steps → slice_get steps i ≡ Some p
    → enabled set (end_from set s (take i steps)) p ≡ true
lawful_next set s [] i p lawful e = absurd (cc e)
lawful_next set s (q ∷ steps) zero p lawful e = let same : q ≡ p = cc e in subst (λ x. enabled set s x ≡ true) same lawful.0
lawful_next set s (q ∷ steps) (suc i) p lawful e = lawful_next set (step set s q) steps i p lawful.1 e

module _ (old new : Running) (steps : List ℕ) (place p : ℕ) (taken : HasTaken old new (take place steps)) (there : slice_get steps place ≡ Some p)
    (off : enabled new.set new.state p ≡ false) where
  off_then : enabled old.set (end_from old.set old.state (take place steps)) p ≡ false
  off_then = subst (λ s. enabled old.set s p ≡ false) (sym taken.led.there) (subst (λ g. enabled g new.state p ≡ false) taken.set off)

  -- the first step that is not enabled
  pub first_unlawful : (told : Why) → IsWhy new.set new.state p told → IsFirstUnlawful old.set old.state steps place told
  first_unlawful told why =
      record {
        p = p;
        there = there;
        before = taken.led.lawful;
        not_enabled = off_then;
        why = subst (λ s. IsWhy old.set s p told) (sym taken.led.there) (subst (λ g. IsWhy g new.state p told) taken.set why);
      }

  -- a list with such a step is not lawful
  pub not_lawful : IsLawfulFrom old.set old.state steps → ⊥
  not_lawful lawful = let no : true ≡ false = sym (lawful_next old.set old.state steps place p lawful there) ∙ off_then in cc no
