-- A call of this program, and the statuses of one that fed its grid to the end.
use Rattle.std.specs.Prelude.{◌≡◌, ℕ}
use Rattle.raw_model.specs.declared.ending.Ending.{Ending}
use Rattle.raw_shell.specs.declared.ending.CommandEnding.TheVariants.{Rested}
use Rattle.raw_shell.specs.Answers.{ending_status}
use Rattle.raw_shell.specs.Call as shell
use Rattle.raw_live_run.specs.declared.arguments.Command.{Command}

-- a call whose words may be one of this program's commands
abbrev pub Call : Type 0
Call = shell.Call Command

-- a status of a grid that came to rest
pub record IsRestStatus (status : ℕ) : Type 0 where
  pub ending : Ending
  pub status_is : status ≡ ending_status (Rested ending)
