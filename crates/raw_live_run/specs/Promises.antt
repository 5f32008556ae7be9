-- What each call of the program promises. The headline is about live input that was fed to its end; one record has all else.
use Rattle.std.specs.Prelude.{◌≡◌, ◌⊎◌, ℕ, ◌+◌, ◌^◌, ◌<◌, ◌≤◌, length, List, [], ◌++◌, Option, Some, Err}
use Rattle.raw_network.specs.Laws.{IsPrefix}
use Rattle.raw_model.specs.Program.{ProgramSet}
use Rattle.raw_model.specs.Rest.{end, IsRun}
use Rattle.raw_model.specs.Outcomes.{outcome, ending_of}
use Rattle.raw_queue.specs.declared.item.Item.{Item}
use Rattle.raw_model.specs.declared.ending.Ending.{Ending}
use Rattle.raw_live.specs.Gots.{gots}
use Rattle.raw_live.specs.Engine.{got_at, with_items}
use Rattle.raw_live.specs.Due.{due_text}
use Rattle.raw_shell.specs.declared.failure.Failure.TheVariants.{Memory}
use Rattle.raw_shell.specs.declared.ending.CommandEnding.TheVariants.{Rested}
use Rattle.raw_shell.specs.Answers.{ending_status}
use Rattle.raw_shell.specs.Seen.{SourceSeen, SinkSeen, ReadFails, WriteFails, Untouched, GivesTooMany, limit}
use Rattle.raw_live_run.specs.declared.arguments.Command.TheVariants.{Feed}
use Rattle.raw_live_run.specs.Answers.{Answer, status_of}
use Rattle.raw_live_run.specs.Call.{Call, IsRestStatus}
use Rattle.raw_live_run.specs.Live.{Live, put_by}
use Rattle.raw_live_run.specs.Serving.{EndsInHead, Ended}
use Rattle.raw_live_run.specs.Reaching.{Reached}

-- ---- the grid was fed to the end

-- The input is live input that says a set, and it was read to its end. What its words make due was appended, of which the last line has
-- the outcome of each lawful list of steps of the set that comes to rest; there is one. It says of each sink what it has then taken out,
-- and the status is that of the outcome.
pub record RestStands (input before : List ℕ) (call : Call) : Type 0 where
  pub set : ProgramSet
  pub live : Live input set
  pub left_now : call.seen.source.new.left ≡ Some []
  pub some_run : (h : List ℕ) × IsRun set h
  pub ending : Ending
  pub ended : (h : List ℕ) → IsRun set h → ending ≡ ending_of (outcome set (end set h))
  pub status_is : call.status ≡ ending_status (Rested ending)
  pub held_now : call.seen.out.new.bytes ≡ Some (before ++ due_text live.says.first (put_by live.says).items)
  pub says : (h : List ℕ) (port : ℕ) → IsRun set h → port < 2 ^ 32 → gots (due_text live.says.first (put_by live.says).items) port ≡ got_at (end set h) port

-- The headline. After live input that was fed to its end: which words came out, and how the grid came to rest.
abbrev pub Headline : Call → Type 0
Headline call =
    (workers : Option ℕ) → call.words ≡ Some (Feed workers) → IsRestStatus call.status
    → (input before : List ℕ) → call.seen.source.old.left ≡ Some input → call.seen.out.old.bytes ≡ Some before
    → RestStands input before call

-- ---- what feeding a grid came to

-- memory was wanted, and nothing was written
pub record GivesUp (out : SinkSeen) (answer : Answer) : Type 0 where
  pub answer_is : answer ≡ Err Memory
  pub untouched : Untouched out

-- the reading ended in the head, or memory was wanted, and nothing was written; or the line `live` was reached
abbrev pub Came : SourceSeen → SinkSeen → Answer → Type 0
Came source out answer = EndsInHead source out answer ⊎ GivesUp out answer ⊎ Reached source out answer

-- What feeding a grid came to, by some answer of this status. At most one byte more than the limit was read.
pub record FedAs (call : Call) : Type 0 where
  pub answer : Answer
  pub status_is : call.status ≡ status_of answer
  pub few : call.seen.source.new.given ≤ call.seen.source.old.given + limit + 1
  pub came : Came call.seen.source call.seen.out answer

-- what feeding a grid came to, from each source that tells its bytes
abbrev pub IsFed : Call → Type 0
IsFed call =
    (workers : Option ℕ) (input : List ℕ) → call.words ≡ Some (Feed workers) → call.seen.source.old.left ≡ Some input → FedAs call

-- ---- what was written, whatever the status

-- A front was appended of the one text that a set and words for it decide. Its whole lines say of each sink a front of what it has at
-- each rest of the set with these words.
pub record TextStands (before : List ℕ) (out : SinkSeen) (first : ProgramSet) (words : List Item) : Type 0 where
  pub text : List ℕ
  pub held_now : out.new.bytes ≡ Some (before ++ text)
  pub front : IsPrefix text (due_text first words)
  pub says : (h : List ℕ) (port : ℕ) → IsRun (with_items first words) h → port < 2 ^ 32 → IsPrefix (gots text port) (got_at (end (with_items first words) h) port)

-- what stands of `out` once the line `live` was reached, whatever the status: all of the text after the status of an outcome
pub record TextOf (before : List ℕ) (call : Call) : Type 0 where
  pub answer : Answer
  pub status_is : call.status ≡ status_of answer
  pub reached : Reached call.seen.source call.seen.out answer
  pub stands : TextStands before call.seen.out reached.says.first reached.words
  pub whole : IsRestStatus call.status → stands.text ≡ due_text reached.says.first reached.words

-- nothing was appended, or the line `live` was reached and a front was of what the set and the words that were handed on make due
abbrev pub TextWritten : Call → Type 0
TextWritten call =
    (workers : Option ℕ) → call.words ≡ Some (Feed workers)
    → (input before : List ℕ) → call.seen.source.old.left ≡ Some input → call.seen.out.old.bytes ≡ Some before
    → Untouched call.seen.out ⊎ TextOf before call

-- ---- the cause of each status, and that valid input is served

-- what a status says of the streams
pub record Causes (call : Call) : Type 0 where
  pub read_fault : call.status ≡ 7 → ReadFails call.seen.source
  pub write_fault : call.status ≡ 8 → WriteFails call.seen.out
  pub too_long : call.status ≡ 10 → GivesTooMany call.seen.source
  pub many : GivesTooMany call.seen.source → (call.status ≡ 2) ⊎ (call.status ≡ 9) ⊎ (call.status ≡ 10)

-- what each status says of the streams, where a grid was fed from a source that tells its bytes
abbrev pub HasCause : Call → Type 0
HasCause call =
    (workers : Option ℕ) (input : List ℕ) → call.words ≡ Some (Feed workers) → call.seen.source.old.left ≡ Some input → Causes call

-- live input of at most as many bytes as are read, where no call of the source and of `out` failed
abbrev pub IsComplete : Call → Type 0
IsComplete call =
    (workers : Option ℕ) (input : List ℕ) (set : ProgramSet) → call.words ≡ Some (Feed workers) → call.seen.source.old.left ≡ Some input
    → Live input set → length input ≤ limit → ¬ (ReadFails call.seen.source) → ¬ (WriteFails call.seen.out)
    → IsRestStatus call.status ⊎ (call.status ≡ 9)

-- All else that a call promises.
pub record Promises (call : Call) : Type 0 where
  -- Whatever the status, the number of workers and the order in which they run: what was written is a front of one text, which the set
  -- and the words that were handed on decide.
  pub text : TextWritten call
  -- Which lines were read, which of them is faulty, and what was written, by the answer.
  pub fed : IsFed call
  -- Status 7 and 8 come only where a call of the source or of `out` failed; 10 only where the source gave more bytes than are read, and
  -- then no other status comes but 2, where a line was faulty before, and 9.
  pub causes : HasCause call
  -- Valid live input is served: it ends with the status of an outcome, or with 9.
  pub complete : IsComplete call
  -- The relation that all of these come from, which also holds for streams that tell no bytes.
  pub ended : Ended call
