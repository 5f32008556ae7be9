-- What stands after a call of a command: that it was done, that it has to be done, and where it is refused.
use Rattle.std.specs.Prelude.{◌≡◌, ◌⊎◌, ◌↔◌, ℕ, ◌<◌, ◌≤◌, List, [], ◌++◌, length, Some}
use Rattle.raw_command_line.specs.declared.arguments.AloneCommand.{AloneCommand}
use Rattle.raw_command_line.specs.declared.arguments.ReadingCommand.{ReadingCommand}
use Rattle.raw_command_line.specs.declared.arguments.ReadingCommand.TheVariants as reading
use Rattle.raw_command_line.specs.declared.arguments.Command.{Command}
use Rattle.raw_command_line.specs.declared.arguments.Command.TheVariants.{Alone, Reads}
use Rattle.raw_shell.specs.declared.ending.CommandEnding.{CommandEnding}
use Rattle.raw_inputs.specs.declared.flaw.Refusal.{Refusal}
use Rattle.raw_shell.specs.declared.failure.Failure.TheVariants.{Refused}
use Rattle.raw_inputs.specs.declared.flaw.InputFlaw.TheVariants as flaw
use Rattle.raw_shell.specs.Answers.{ending_status}
use Rattle.raw_owed.specs.Answers.{err_line}
use Rattle.raw_owed.specs.Owed.{Accepts, Owes, IsPastOutput, IsRefused}
use Rattle.raw_shell.specs.Seen.{limit, SinkSeen, ReadFails, WriteFails, Unread, Untouched, Says, GivesTooMany}
use Rattle.raw_shell.specs.Call.{IsEndingStatus}
use Rattle.raw_commands.specs.Call.{Call}

-- A command that reads was done: an output that is due for the input was appended, the source has no bytes left, and the
-- status is that of how the command ended.
pub record CallStands (Due : List ℕ → List ℕ → CommandEnding → Type 0) (input before : List ℕ) (call : Call) : Type 0 where
  pub output : List ℕ
  pub ending : CommandEnding
  pub due : Due input output ending
  pub held_now : call.seen.out.new.bytes ≡ Some (before ++ output)
  pub left_now : call.seen.source.new.left ≡ Some []
  pub ended : call.status ≡ ending_status ending

-- After this command, which reads, has ended as one that was done: an output stands that is due for the input.
abbrev pub Written : ReadingCommand → (List ℕ → List ℕ → CommandEnding → Type 0) → Call → Type 0
Written command Due call =
    call.words ≡ Some (Reads command) → IsEndingStatus call.status
    → (input before : List ℕ) → call.seen.source.old.left ≡ Some input → call.seen.out.old.bytes ≡ Some before
    → CallStands Due input before call

-- A command that reads nothing was done: an output that is due was appended, the source was not asked, and the status is that
-- of how the command ended.
pub record StandsAlone (Due : List ℕ → CommandEnding → Type 0) (before : List ℕ) (call : Call) : Type 0 where
  pub output : List ℕ
  pub ending : CommandEnding
  pub due : Due output ending
  pub held_now : call.seen.out.new.bytes ≡ Some (before ++ output)
  pub unread : Unread call.seen.source
  pub ended : call.status ≡ ending_status ending

-- After this command, which reads nothing, has ended as one that was done: an output stands that is due.
abbrev pub WrittenAlone : AloneCommand → (List ℕ → CommandEnding → Type 0) → Call → Type 0
WrittenAlone command Due call =
    call.words ≡ Some (Alone command) → IsEndingStatus call.status
    → (before : List ℕ) → call.seen.out.old.bytes ≡ Some before → StandsAlone Due before call

-- A command that reads nothing does not ask the source, whatever its status.
abbrev pub ReadsNothing : Call → Type 0
ReadsNothing call = (command : AloneCommand) → call.words ≡ Some (Alone command) → Unread call.seen.source

-- the whole output of a command was appended, and the status is its own
pub record Finished (command : Command) (input before : List ℕ) (out : SinkSeen) (status : ℕ) : Type 0 where
  pub ending : CommandEnding
  pub output : List ℕ
  pub owed : Owes command input output ending
  pub held_now : out.new.bytes ≡ Some (before ++ output)
  pub ended : status ≡ ending_status ending

-- want of memory: nothing is written
pub record WantsMemory (out : SinkSeen) (status : ℕ) : Type 0 where
  pub nine : status ≡ 9
  pub untouched : Untouched out

-- Lawful words, a valid input and no fault give the whole output, or want of memory.
abbrev pub Complete : Call → Type 0
Complete call =
    (command : ReadingCommand) → call.words ≡ Some (Reads command)
    → (input before : List ℕ) → call.seen.source.old.left ≡ Some input → call.seen.out.old.bytes ≡ Some before → Accepts command input
    → (ReadFails call.seen.source → ⊥) → (WriteFails call.seen.out → ⊥)
    → Finished (Reads command) input before call.seen.out call.status ⊎ WantsMemory call.seen.out call.status

-- a command that reads nothing was done or wanted memory, and did not ask the source
pub record CompletesAlone (command : AloneCommand) (before : List ℕ) (call : Call) : Type 0 where
  pub unread : Unread call.seen.source
  pub done : Finished (Alone command) [] before call.seen.out call.status ⊎ WantsMemory call.seen.out call.status

-- Lawful words of a command that reads nothing and no fault give the whole output, or want of memory; the source is not asked.
abbrev pub CompleteAlone : Call → Type 0
CompleteAlone call =
    (command : AloneCommand) → call.words ≡ Some (Alone command)
    → (before : List ℕ) → call.seen.out.old.bytes ≡ Some before → (WriteFails call.seen.out → ⊥)
    → CompletesAlone command before call

-- Status 10 comes exactly where the source gave more bytes than are read.
abbrev pub TooLongExactly : Call → Type 0
TooLongExactly call =
    (command : ReadingCommand) → call.words ≡ Some (Reads command)
    → (call.status ≡ 10) ↔ GivesTooMany call.seen.source

-- More bytes than are read give status 10, where nothing failed and memory was there.
abbrev pub TooLongAlways : Call → Type 0
TooLongAlways call =
    (command : ReadingCommand) → call.words ≡ Some (Reads command)
    → (input : List ℕ) → call.seen.source.old.left ≡ Some input → (ReadFails call.seen.source → ⊥)
    → limit < length input → (call.status ≡ 10) ⊎ WantsMemory call.seen.out call.status

-- A fault of the input gives 2, where the source did not fail and memory was there, whatever out did; its place is the
-- one by `Causes`.
abbrev pub FaultExactly : Call → Type 0
FaultExactly call =
    (command : ReadingCommand) → call.words ≡ Some (Reads command)
    → (input : List ℕ) → call.seen.source.old.left ≡ Some input → length input ≤ limit
    → (refusal : Refusal) → IsRefused command input refusal
    → (ReadFails call.seen.source → ⊥) → (call.status ≡ 2) ⊎ WantsMemory call.seen.out call.status

-- what the lines before this one show was appended, and the line is told on err
pub record StopsPast (before output : List ℕ) (line : ℕ) (call : Call) : Type 0 where
  pub two : call.status ≡ 2
  pub held_now : call.seen.out.new.bytes ≡ Some (before ++ output)
  pub said : Says call.seen.err (err_line (Refused (flaw.PastEnd line)))

-- A script that goes past the end is refused at the first line that does, once what the lines before it show was put, where
-- nothing failed and memory was there.
abbrev pub PastExactly : Call → Type 0
PastExactly call =
    call.words ≡ Some (Reads reading.Debug)
    → (input before : List ℕ) → call.seen.source.old.left ≡ Some input → call.seen.out.old.bytes ≡ Some before → length input ≤ limit
    → (output : List ℕ) (line : ℕ) → IsPastOutput input output line
    → (ReadFails call.seen.source → ⊥) → (WriteFails call.seen.out → ⊥)
    → StopsPast before output line call ⊎ WantsMemory call.seen.out call.status
