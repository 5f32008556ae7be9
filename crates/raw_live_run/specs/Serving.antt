-- The relation between the words, the answer, and what is seen of the source, of out and of err, from which the other clauses come.
use Rattle.std.specs.Prelude.{◌≡◌, ◌⊎◌, ◌+◌, ◌-◌, ◌≤◌, length, Option, Some, None, Result, Ok, Err}
use Rattle.raw_io.specs.Sights.{SourceSight}
use Rattle.raw_io.specs.Writing.{Writes}
use Rattle.raw_live_text.specs.declared.intake.Intake.{Intake}
use Rattle.raw_model.specs.declared.ending.Ending.{Ending}
use Rattle.raw_model.specs.declared.ending.Ending.TheVariants.{Done}
use Rattle.raw_live.specs.declared.live.Halt.{Halt}
use Rattle.raw_live.specs.Judging.{IsIntakeOf}
use Rattle.raw_live.specs.Lives.{Lives}
use Rattle.raw_shell.specs.declared.failure.Failure.TheVariants.{Use, WriteFault, Memory}
use Rattle.raw_shell.specs.declared.arguments.FixedText.{FixedText}
use Rattle.raw_shell.specs.Answers.{Said}
use Rattle.raw_shell.specs.Seen.{SourceSeen, SinkSeen, Unread, Untouched, limit}
use Rattle.raw_live_run.specs.declared.arguments.Command.{Command}
use Rattle.raw_live_run.specs.declared.arguments.Command.TheVariants.{Fixed, Feed}
use Rattle.raw_live_head.specs.declared.beginning.Begun.{Begun}
use Rattle.raw_live_head.specs.Flaws.{Failure, flaw_line}
use Rattle.raw_live_run.specs.Answers.{Answer, fixed_text_of, answer_of, status_of, as_program_answer}
use Rattle.raw_live_head.specs.Beginning.{Begins, StopsInHead}
use Rattle.raw_live_run.specs.Call.{Call}
use Rattle.raw_live_run.specs.Live.{live_word}
use Rattle.raw_live_text.specs.declared.reader.TheConstants.{PIECE}

-- what was read behind the mark is within the limit
pub record IsReady (begun : Begun) : Type 0 where
  pub given : begun.given ≤ limit
  pub rest : length begun.rest.items ≤ begun.given
  pub line : begun.line ≤ limit + 2

-- the lines behind the mark were read and fed
pub record LivesOn (source : SourceSeen) (out : SinkSeen) (begun : Begun) (answer : Answer) : Type 0 where
  pub intake : Intake
  pub intake_is : IsIntakeOf begun.set intake
  pub line : intake.line ≡ begun.line
  pub lived : Result Ending Halt
  pub lives : Lives source.old source.new out.old out.new intake begun.rest.items (limit - begun.given) begun.set lived
  pub answer_is : answer ≡ answer_of lived

-- nothing more was done, for want of memory
pub record WantsMemory (source : SourceSeen) (out : SinkSeen) (answer : Answer) : Type 0 where
  pub answer_is : answer ≡ Err Memory
  pub unread : Unread source
  pub untouched : Untouched out

abbrev pub FedOn : SourceSeen → SinkSeen → Begun → Answer → Type 0
FedOn source out begun answer = LivesOn source out begun answer ⊎ WantsMemory source out answer

-- the reading ended in the head, and nothing was written
pub record EndsInHead (source : SourceSeen) (out : SinkSeen) (answer : Answer) : Type 0 where
  pub failure : Failure
  pub answer_is : answer ≡ Err failure
  pub stops : StopsInHead live_word PIECE source failure
  pub untouched : Untouched out

-- the head was read, and then the lines behind it
pub record ReachesMark (source : SourceSeen) (out : SinkSeen) (answer : Answer) : Type 0 where
  pub between : SourceSight
  pub begun : Begun
  pub begins : Begins live_word PIECE source.old between begun
  pub fed : FedOn (record { old = between; new = source.new }) out begun answer

-- what feeding a grid comes to
abbrev pub Feeds : SourceSeen → SinkSeen → Answer → Type 0
Feeds source out answer = EndsInHead source out answer ⊎ ReachesMark source out answer

-- a fixed text was written, and nothing was read
pub record Shows (text : FixedText) (source : SourceSeen) (out : SinkSeen) (answer : Answer) : Type 0 where
  pub unread : Unread source
  pub writes : Writes out.old out.new (fixed_text_of text) answer
  pub answer_is : (answer ≡ Ok Done) ⊎ (answer ≡ Err WriteFault)

-- the words are refused: neither the source nor out is touched
pub record RefusesUse (source : SourceSeen) (out : SinkSeen) (answer : Answer) : Type 0 where
  pub answer_is : answer ≡ Err Use
  pub unread : Unread source
  pub untouched : Untouched out

-- what the words, the source and out have to do with the answer
abbrev pub Serves : Option Command → SourceSeen → SinkSeen → Answer → Type 0
Serves None source out answer = RefusesUse source out answer
Serves (Some (Fixed text)) source out answer = Shows text source out answer
Serves (Some (Feed workers)) source out answer = Feeds source out answer

-- all of it: some answer has the status of the call, is tied to what was done to the source and out, and was said on err
pub record Ended (call : Call) : Type 0 where
  pub answer : Answer
  pub status_is : call.status ≡ status_of answer
  pub serves : Serves call.words call.seen.source call.seen.out answer
  pub said : Said flaw_line call.seen.err (as_program_answer answer)
