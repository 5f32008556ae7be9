-- A command that was done and a failure have no status in common.
use Rattle.std.proofs.Common.{◌≡◌, ℕ, Bool, true, false, ◌||◌, ◌==◌, refl, sym, ◌∙◌, ap}
use Rattle.raw_shell.specs.declared.ending.CommandEnding.{CommandEnding}
use Rattle.raw_shell.specs.declared.ending.CommandEnding.TheVariants.{Done, Rested}
use Rattle.raw_model.specs.declared.ending.Ending.TheVariants as rest
use Rattle.raw_inputs.specs.Flaws.{Failure}
use Rattle.raw_shell.specs.declared.failure.Failure.TheVariants.{Use}
use Rattle.raw_shell.specs.Answers.{ending_status, failure_status}
use Rattle.raw_shell.specs.Call.{IsEndingStatus}

-- a status of a failure
abbrev pub is_failure_status : ℕ → Bool
is_failure_status status = (status == 2) || (status == 7) || (status == 8) || (status == 9) || (status == 10)

failure_is : (failure : Failure) → is_failure_status (failure_status failure) ≡ true
failure_is Use = refl
failure_is _ = refl

ending_is_not : (ending : CommandEnding) → is_failure_status (ending_status ending) ≡ false
ending_is_not (Rested rest.Done) = refl
ending_is_not (Rested _) = refl
ending_is_not _ = refl

-- no command that was done has a status of a failure
pub apart : (ending : CommandEnding) (status : ℕ) → is_failure_status status ≡ true → ending_status ending ≡ status → ⊥
apart ending status fails same =
    let one : true ≡ false = sym fails ∙ ap is_failure_status (sym same) ∙ ending_is_not ending in
    cc

-- no failure has the status of a command that was done
pub not_done : (failure : Failure) → IsEndingStatus (failure_status failure) → ⊥
not_done failure done = apart done.ending (failure_status failure) (failure_is failure) (sym done.status_is)
