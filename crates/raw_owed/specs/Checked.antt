-- What `check` writes.
use Rattle.std.specs.Prelude.{ℕ, List, ◌++◌, codes, decimal, length, slice_index}
use Rattle.raw_steps.specs.declared.checking.Why.{Why}
use Rattle.raw_steps.specs.declared.checking.Why.TheVariants.{Stopped, Waits}
use Rattle.raw_steps.specs.declared.checking.CheckAnswer.{CheckAnswer}
use Rattle.raw_steps.specs.declared.checking.CheckAnswer.TheVariants.{Lawful, Unlawful}
use Rattle.raw_shell.specs.declared.ending.CommandEnding.{CommandEnding}
use Rattle.raw_shell.specs.declared.ending.CommandEnding.TheVariants as ending

-- why a step can't be taken
abbrev pub why_text : Why → List ℕ
why_text Stopped = codes " stopped\n"
why_text (Waits wait) = codes " waits wire " ++ (decimal wait.wire.0 ++ (codes " for " ++ (decimal wait.on.0 ++ codes "\n")))

-- the line of a step at a place, of this processor, and this behind it
abbrev pub place_text : ℕ → ℕ → List ℕ → List ℕ
place_text place p behind = codes "unlawful at " ++ (decimal place ++ (codes ": " ++ (decimal p ++ behind)))

-- the line of an answer for these steps
abbrev pub check_line : List ℕ → CheckAnswer → List ℕ
check_line steps Lawful = codes "lawful " ++ (decimal (length steps) ++ codes "\n")
check_line steps (Unlawful place told) = place_text place (slice_index steps place) (why_text told)

-- how `check` ends
abbrev pub check_ending : CheckAnswer → CommandEnding
check_ending Lawful = ending.Done
check_ending (Unlawful place told) = ending.Unlawful
