-- What a command may answer for its input, and what it then did to out.
use Rattle.std.specs.Prelude.{ℕ, ◌<◌, ◌≤◌, List, length, take, Ok, Err}
use Rattle.raw_command_line.specs.declared.arguments.Command.{Command}
use Rattle.raw_shell.specs.declared.ending.CommandEnding.{CommandEnding}
use Rattle.raw_inputs.specs.declared.flaw.Refusal.{Refusal}
use Rattle.raw_shell.specs.declared.failure.Failure.TheVariants.{Refused, WriteFault, Memory}
use Rattle.raw_inputs.specs.declared.flaw.InputFlaw.TheVariants as flaw
use Rattle.raw_owed.specs.Answers.{Answer}
use Rattle.raw_owed.specs.Owed.{Owes, GoesPast, Refuses, IsDue}
use Rattle.raw_shell.specs.Seen.{SinkSeen, WriteFails, Untouched, Puts}

-- all that is due was put
pub record PutsWhole (command : Command) (input : List ℕ) (out : SinkSeen) (ending : CommandEnding) : Type 0 where
  pub output : List ℕ
  pub owed : Owes command input output ending
  pub put : Puts out output
  pub counted : out.old.faults ≤ out.new.faults

-- a proper front of what is due was put, fewer bytes than it has, and the sink failed
pub record PutsFront (command : Command) (input : List ℕ) (out : SinkSeen) : Type 0 where
  pub output : List ℕ
  pub due : IsDue command input output
  pub count : ℕ
  pub short : count < length output
  pub put : Puts out (take count output)
  pub failed : WriteFails out

-- what is due before the line that goes past the end was put
pub record PutsPast (command : Command) (input : List ℕ) (out : SinkSeen) (line : ℕ) : Type 0 where
  pub output : List ℕ
  pub past : GoesPast command input output line
  pub put : Puts out output
  pub counted : out.old.faults ≤ out.new.faults

-- the input was refused, and nothing was put
pub record RefusesInput (command : Command) (input : List ℕ) (out : SinkSeen) (refusal : Refusal) : Type 0 where
  pub refused : Refuses command input refusal
  pub untouched : Untouched out

-- what a command may answer for its input, and what it then did to `out`
abbrev pub Obeyed : Command → List ℕ → SinkSeen → Answer → Type 0
Obeyed command input out (Ok ending) = PutsWhole command input out ending
Obeyed command input out (Err (Refused (flaw.At refusal))) = RefusesInput command input out refusal
Obeyed command input out (Err (Refused (flaw.PastEnd line))) = PutsPast command input out line
Obeyed command input out (Err WriteFault) = PutsFront command input out
Obeyed command input out (Err Memory) = Untouched out
Obeyed command input out _ = ⊥
