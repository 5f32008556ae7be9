-- The cause of each status of a call, and what it says of the streams.
use Rattle.std.specs.Prelude.{◌≡◌, ◌⊎◌, ℕ, List, [], Some, None}
use Rattle.raw_command_line.specs.declared.arguments.Command.{Command}
use Rattle.raw_command_line.specs.declared.arguments.Command.TheVariants.{Alone, Reads}
use Rattle.raw_shell.specs.declared.ending.CommandEnding.{CommandEnding}
use Rattle.raw_inputs.specs.declared.flaw.Refusal.{Refusal}
use Rattle.raw_shell.specs.declared.failure.Failure.TheVariants.{Use, Refused, ReadFault, WriteFault, Memory, TooLong}
use Rattle.raw_inputs.specs.declared.flaw.InputFlaw.TheVariants as flaw
use Rattle.raw_shell.specs.Answers.{ending_status}
use Rattle.raw_owed.specs.Answers.{err_line}
use Rattle.raw_owed.specs.Owed.{GoesPast, Refuses}
use Rattle.raw_shell.specs.Seen.{SourceSeen, ReadFails, Unread, Untouched, Puts, Says, GivesOneTooMany, GivesFew, ReadsWhole}
use Rattle.raw_owed.specs.Obeyed.{PutsWhole, PutsFront}
use Rattle.raw_shell.specs.Call.{IsEndingStatus}
use Rattle.raw_commands.specs.Call.{Call}

-- the input of a command: all bytes that were left in the source; or none, where the command does not ask the source
abbrev pub IsInput : Command → SourceSeen → List ℕ → Type 0
IsInput (Alone command) source input = (input ≡ []) × Unread source
IsInput (Reads command) source input = ReadsWhole source input

-- the words are refused
pub record RefusedWords (call : Call) : Type 0 where
  pub two : call.status ≡ 2
  pub unread : Unread call.seen.source
  pub untouched : Untouched call.seen.out
  pub said : Says call.seen.err (err_line Use)

-- the input that was read is refused, at its own place
pub record RefusedInput (command : Command) (call : Call) : Type 0 where
  pub input : List ℕ
  pub read : IsInput command call.seen.source input
  pub refusal : Refusal
  pub refused : Refuses command input refusal
  pub untouched : Untouched call.seen.out
  pub said : Says call.seen.err (err_line (Refused (flaw.At refusal)))

-- a line of the script that was read goes past the end, and what the lines before it show was put
pub record WentPast (command : Command) (call : Call) : Type 0 where
  pub input : List ℕ
  pub read : IsInput command call.seen.source input
  pub line : ℕ
  pub output : List ℕ
  pub past : GoesPast command input output line
  pub put : Puts call.seen.out output
  pub said : Says call.seen.err (err_line (Refused (flaw.PastEnd line)))

-- the source failed before it had given too many bytes
pub record FailedRead (call : Call) : Type 0 where
  pub failed : ReadFails call.seen.source
  pub few : GivesFew call.seen.source
  pub untouched : Untouched call.seen.out
  pub said : Says call.seen.err (err_line ReadFault)

-- out failed, and has a proper front of what is due for the input that was read
pub record FailedWrite (call : Call) : Type 0 where
  pub command : Command
  pub words_are : call.words ≡ Some command
  pub input : List ℕ
  pub read : IsInput command call.seen.source input
  pub put : PutsFront command input call.seen.out
  pub said : Says call.seen.err (err_line WriteFault)

-- there was no memory, and the source gave no more bytes than are read
pub record HadNoMemory (call : Call) : Type 0 where
  pub few : GivesFew call.seen.source
  pub untouched : Untouched call.seen.out
  pub said : Says call.seen.err (err_line Memory)

-- the source gave one byte more than are read
pub record HadTooMany (call : Call) : Type 0 where
  pub many : GivesOneTooMany call.seen.source
  pub untouched : Untouched call.seen.out
  pub said : Says call.seen.err (err_line TooLong)

-- the command was done: all that is due for the input that was read was put on out, and nothing on err
pub record WasDone (call : Call) : Type 0 where
  pub command : Command
  pub words_are : call.words ≡ Some command
  pub input : List ℕ
  pub read : IsInput command call.seen.source input
  pub ending : CommandEnding
  pub status_is : call.status ≡ ending_status ending
  pub put : PutsWhole command input call.seen.out ending
  pub silent : Untouched call.seen.err

-- the cause of each status, and what then stands on out and err
pub record Causes (call : Call) : Type 0 where
  -- words that are no command are refused, and nothing is touched
  pub no_command : call.words ≡ None → RefusedWords call
  -- 2: the input is refused at its own place, or a line of a script goes past the end
  pub two : (command : Command) → call.words ≡ Some command → call.status ≡ 2 → RefusedInput command call ⊎ WentPast command call
  -- 7: the source failed
  pub seven : call.status ≡ 7 → FailedRead call
  -- 8: out failed, and has a proper front of what is due
  pub eight : call.status ≡ 8 → FailedWrite call
  -- 9: there was no memory, and nothing was put on out
  pub nine : call.status ≡ 9 → HadNoMemory call
  -- 10: the source gave one byte more than are read
  pub ten : call.status ≡ 10 → HadTooMany call
  -- any other: the command was done, and all that is due was put on out
  pub done : IsEndingStatus call.status → WasDone call
