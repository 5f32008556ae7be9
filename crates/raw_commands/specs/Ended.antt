-- The one relation between the words, the answer, and what is seen of the source, of out and of err.
use Rattle.std.specs.Prelude.{◌≡◌, ◌⊎◌, ℕ, ◌≤◌, List, [], length, Option, Some, None, Ok, Err}
use Rattle.raw_io.specs.Reading.{TakesFront}
use Rattle.raw_command_line.specs.declared.arguments.AloneCommand.{AloneCommand}
use Rattle.raw_command_line.specs.declared.arguments.ReadingCommand.{ReadingCommand}
use Rattle.raw_command_line.specs.declared.arguments.Command.{Command}
use Rattle.raw_command_line.specs.declared.arguments.Command.TheVariants.{Alone, Reads}
use Rattle.raw_shell.specs.declared.failure.Failure.TheVariants.{Use, ReadFault, Memory, TooLong}
use Rattle.raw_shell.specs.Answers.{status_of, Said}
use Rattle.raw_inputs.specs.Flaws.{Failure, flaw_line}
use Rattle.raw_owed.specs.Answers.{Answer}
use Rattle.raw_owed.specs.Obeyed.{Obeyed}
use Rattle.raw_commands.specs.Call.{Call}
use Rattle.raw_shell.specs.Seen.{limit, SourceSeen, SinkSeen, ReadFails, Unread, Untouched, GivesOneTooMany, GivesFew, ReadsWhole}

-- a call of the source failed before it had given too many bytes
pub record FailsToRead (source : SourceSeen) : Type 0 where
  pub failed : ReadFails source
  pub few : GivesFew source

-- why the input was not read whole
abbrev pub NotRead : SourceSeen → Failure → Type 0
NotRead source ReadFault = FailsToRead source
NotRead source Memory = GivesFew source
NotRead source TooLong = GivesOneTooMany source
NotRead source _ = ⊥

-- why no command was obeyed whose input was to be read
abbrev pub IsCause : SourceSeen → Answer → Type 0
IsCause source (Ok ending) = ⊥
IsCause source (Err failure) = NotRead source failure

-- the input was read whole and obeyed
pub record ReadsAndObeys (command : ReadingCommand) (source : SourceSeen) (out : SinkSeen) (answer : Answer) : Type 0 where
  pub input : List ℕ
  pub short : length input ≤ limit
  pub read : ReadsWhole source input
  pub obeyed : Obeyed (Reads command) input out answer

-- an answer that came before the command was obeyed, when a front of the input was read
pub record Stops (source : SourceSeen) (out : SinkSeen) (answer : Answer) : Type 0 where
  pub read : TakesFront source.old source.new
  pub cause : IsCause source answer
  pub untouched : Untouched out

-- the words are refused: neither the source nor out is touched
pub record RefusesUse (source : SourceSeen) (out : SinkSeen) (answer : Answer) : Type 0 where
  pub is_use : answer ≡ Err Use
  pub unread : Unread source
  pub untouched : Untouched out

-- a command that reads nothing
pub record ObeysAlone (command : AloneCommand) (source : SourceSeen) (out : SinkSeen) (answer : Answer) : Type 0 where
  pub unread : Unread source
  pub obeyed : Obeyed (Alone command) [] out answer

-- a lawful command, by whether it reads
abbrev pub Performed : Command → SourceSeen → SinkSeen → Answer → Type 0
Performed (Alone command) source out answer = ObeysAlone command source out answer
Performed (Reads command) source out answer = Stops source out answer ⊎ ReadsAndObeys command source out answer

-- what the words, the source and out have to do with the answer
abbrev pub Answered : Option Command → SourceSeen → SinkSeen → Answer → Type 0
Answered None source out answer = RefusesUse source out answer
Answered (Some command) source out answer = Performed command source out answer

-- all of it: some answer has the status of the call, is tied to what was done to the source and out, and was said on err
pub record Ended (call : Call) : Type 0 where
  pub answer : Answer
  pub status_is : call.status ≡ status_of answer
  pub answered : Answered call.words call.seen.source call.seen.out answer
  pub said : Said flaw_line call.seen.err answer
