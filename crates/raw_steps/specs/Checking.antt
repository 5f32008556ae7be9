-- Which step of a list can't be taken, and why.
use Rattle.std.specs.Prelude.{◌≡◌, ℕ, true, false, Some, List, take, slice_get}
use Rattle.raw_model.specs.Program.{ProgramSet}
use Rattle.raw_model.specs.Start.{MachineState}
use Rattle.raw_model.specs.Rest.{enabled, stopped, IsLawfulFrom, end_from}
use Rattle.raw_model.specs.Waits.{first_wait, waits_for}
use Rattle.raw_steps.specs.declared.checking.Why.{Why}
use Rattle.raw_steps.specs.declared.checking.Why.TheVariants.{Stopped, Waits}
use Rattle.raw_steps.specs.declared.checking.CheckAnswer.{CheckAnswer}
use Rattle.raw_steps.specs.declared.checking.CheckAnswer.TheVariants.{Lawful, Unlawful}

-- why processor p can't take a step: it is stopped, or else it waits, for this wire first
abbrev pub IsWhy : ProgramSet → MachineState → ℕ → Why → Type 0
IsWhy set s p Stopped = stopped set s p ≡ true
IsWhy set s p (Waits wait) =
    (stopped set s p ≡ false) × (first_wait set s p ≡ Some wait.wire.0) × (waits_for set s p ≡ Some wait.on.0)

-- the step at this place, from 0, is the first that is not enabled when its turn comes, and this is why
pub record IsFirstUnlawful (set : ProgramSet) (s : MachineState) (steps : List ℕ) (place : ℕ) (told : Why) : Type 0 where
  pub p : ℕ
  pub there : slice_get steps place ≡ Some p
  pub before : IsLawfulFrom set s (take place steps)
  pub not_enabled : enabled set (end_from set s (take place steps)) p ≡ false
  pub why : IsWhy set (end_from set s (take place steps)) p told

-- what an answer says of the list
abbrev pub IsAnswer : ProgramSet → MachineState → List ℕ → CheckAnswer → Type 0
IsAnswer set s steps Lawful = IsLawfulFrom set s steps
IsAnswer set s steps (Unlawful place told) = IsFirstUnlawful set s steps place told

-- the steps that are taken: all of a lawful list, and else those before the first that is not enabled
abbrev pub taken_of : CheckAnswer → List ℕ → List ℕ
taken_of Lawful steps = steps
taken_of (Unlawful place told) steps = take place steps
