-- What `check` says of the texts that `history` writes.
use Rattle.std.specs.Prelude.{◌≡◌, ℕ, ◌≤◌, List, ◌++◌, codes, decimal, length, Option}
use Rattle.raw_model.specs.Program.{ProgramSet}
use Rattle.raw_model.specs.Rest.{IsRun}
use Rattle.raw_command_line.specs.declared.arguments.SetForm.{SetForm}
use Rattle.raw_command_line.specs.declared.arguments.RunOptions.{RunOptions}
use Rattle.raw_command_line.specs.declared.arguments.RunOutput.TheVariants.{History}
use Rattle.raw_command_line.specs.declared.arguments.ReadingCommand.TheVariants as reading
use Rattle.raw_command_line.specs.declared.arguments.Command.TheVariants.{Reads}
use Rattle.raw_shell.specs.declared.ending.CommandEnding.{CommandEnding}
use Rattle.raw_shell.specs.declared.ending.CommandEnding.TheVariants.{Done}
use Rattle.raw_shell.specs.Seen.{limit}
use Rattle.raw_inputs.specs.Inputs.{whole, Means, AreSaid}
use Rattle.raw_owed.specs.Owed.{Owes}
use Rattle.raw_owed.specs.Owed.{Accepts}

-- `history` of a set in this form, by so many workers where they are said
abbrev pub history_run : SetForm → Option ℕ → RunOptions
history_run form workers = record { output = History; form = form; workers = workers }

-- the text of a history: it says the set that the input means, and the steps of a run of it; `check` takes the text, and owes the
-- line that each of these steps is lawful, and nothing else
pub record HistoryIsLawful (form : SetForm) (input text : List ℕ) : Type 0 where
  pub set : ProgramSet
  pub meaning : Means (whole form) input set
  pub steps : List ℕ
  pub run : IsRun set steps
  pub said : AreSaid text set steps
  pub taken : Accepts reading.Check text
  pub checked : (output : List ℕ) (ending : CommandEnding) → Owes (Reads reading.Check) text output ending
      → (output ≡ codes "lawful " ++ (decimal (length steps) ++ codes "\n")) × (ending ≡ Done)

-- so is what `history` writes, where it is no longer than an input may be
abbrev pub EachHistoryIsLawful : Type 0
EachHistoryIsLawful =
    (form : SetForm) (workers : Option ℕ) (input text : List ℕ) (ending : CommandEnding)
    → Owes (Reads (reading.Run (history_run form workers))) input text ending → length text ≤ limit → HistoryIsLawful form input text
