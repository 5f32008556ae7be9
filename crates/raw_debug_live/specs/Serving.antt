-- What a call of the program comes to.
use Rattle.std.specs.Prelude.{◌≡◌, ◌⊎◌, ℕ, ◌-◌, List, Result, Ok, Err, codes}
use Rattle.raw_io.specs.Sights.{SourceSight}
use Rattle.raw_text.specs.declared.limits.TheConstants.{MAX_TEXT}
use Rattle.raw_text.specs.Text.{text_lines}
use Rattle.raw_lines.specs.Placing.{label_places}
use Rattle.raw_debug.specs.Commands.{LabelPlaces}
use Rattle.raw_shell.specs.declared.ending.CommandEnding.TheVariants.{Done}
use Rattle.raw_shell.specs.declared.failure.Failure.TheVariants.{ReadFault, WriteFault, Memory, TooLong}
use Rattle.raw_shell.specs.Answers as shell
use Rattle.raw_shell.specs.Seen.{SourceSeen, SinkSeen, Untouched}
use Rattle.raw_live_head.specs.declared.flaw.LineFlaw.{LineFlaw}
use Rattle.raw_live_head.specs.declared.beginning.Begun.{Begun}
use Rattle.raw_live_head.specs.Flaws.{Failure, flaw_line}
use Rattle.raw_live_head.specs.Beginning.{Begins, StopsInHead}
use Rattle.raw_debug_live.specs.declared.answering.Halt.{Halt}
use Rattle.raw_debug_live.specs.declared.answering.Halt.TheVariants as halt
use Rattle.raw_debug_live.specs.Answering.{Answers}

-- the word that stands alone in the mark behind the set
abbrev pub script_word : List ℕ
script_word = codes "script"

abbrev pub Answer : Type 0
Answer = shell.Answer LineFlaw

-- how the call ends whose lines were read so far
abbrev pub answer_of : Result (Unit {0}) Halt → Answer
answer_of (Ok x) = Ok Done
answer_of (Err halt.Read) = Err ReadFault
answer_of (Err halt.Write) = Err WriteFault
answer_of (Err halt.TooLong) = Err TooLong

-- where the labels of the programs of a set stand that was read
abbrev pub labels_of : Begun → LabelPlaces
labels_of begun = label_places begun.set.topo (text_lines begun.text)

-- what a call comes to: the head was not read, or memory was wanted, and nothing was written; or the lines were answered
pub record GivesUp (source : SourceSeen) (out : SinkSeen) (answer : Answer) : Type 0 where
  pub failure : Failure
  pub answer_is : answer ≡ Err failure
  pub why : StopsInHead script_word 1 source failure ⊎ (failure ≡ Memory)
  pub untouched : Untouched out

pub record Reached (source : SourceSeen) (out : SinkSeen) (answer : Answer) : Type 0 where
  pub between : SourceSight
  pub begun : Begun
  pub begins : Begins script_word 1 source.old between begun
  pub answered : Result (Unit {0}) Halt
  pub answers : Answers between source.new out.old out.new (labels_of begun) begun.set (MAX_TEXT - begun.given) answered
  pub answer_is : answer ≡ answer_of answered

-- what the source and out have to do with the answer
abbrev pub Serves : SourceSeen → SinkSeen → Answer → Type 0
Serves source out answer = GivesUp source out answer ⊎ Reached source out answer

-- some answer has the status, is tied to what was done to the source and out, and was said on err
pub record Ended (source : SourceSeen) (out err : SinkSeen) (status : ℕ) : Type 0 where
  pub answer : Answer
  pub status_is : status ≡ shell.status_of answer
  pub serves : Serves source out answer
  pub said : shell.Said flaw_line err answer
