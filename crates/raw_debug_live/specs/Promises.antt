-- What each call promises, by its status. One record has all of it.
use Rattle.std.specs.Prelude.{◌≡◌, ◌⊎◌, ℕ, ◌-◌, List, take}
use Rattle.std.specs.Io.KnownBytes.{Consumes, IsAtEnd}
use Rattle.raw_io.specs.Sights.{SourceSight}
use Rattle.raw_text.specs.Lines.{lines_of}
use Rattle.raw_text.specs.declared.limits.TheConstants.{MAX_TEXT}
use Rattle.raw_live_text.specs.Feeding.{whole_lines, AreRead}
use Rattle.raw_debug.specs.Script.{first_spot}
use Rattle.raw_debug.specs.Live.{answers}
use Rattle.raw_shell.specs.declared.failure.Failure.TheVariants.{Refused, ReadFault, WriteFault, Memory, TooLong}
use Rattle.raw_shell.specs.Answers as shell
use Rattle.raw_shell.specs.Seen.{Seen, SourceSeen, SinkSeen, ReadFails, Untouched, Says, GivesOneTooMany}
use Rattle.raw_live_head.specs.declared.flaw.LineFlaw.{LineFlaw}
use Rattle.raw_live_head.specs.declared.beginning.Begun.{Begun}
use Rattle.raw_live_head.specs.Flaws.{Failure, flaw_line}
use Rattle.raw_live_head.specs.Beginning.{Begins, StopsInHead}
use Rattle.raw_debug_live.specs.Answering.{AllPut, FailsIn}
use Rattle.raw_debug_live.specs.Serving.{script_word, labels_of, Ended}

-- the line on err of a call that did not answer to the end
abbrev pub err_line : Failure → List ℕ
err_line failure = shell.err_line flaw_line failure

-- a set and the line `script` were read, and then these bytes behind that line
pub record Reads (source : SourceSeen) (bytes : List ℕ) : Type 0 where
  pub between : SourceSight
  pub begun : Begun
  pub begins : Begins script_word 1 source.old between begun
  pub taken : Consumes between.left source.new.left bytes

-- Each line that was read whole is answered, by its newline; of the bytes behind the last newline nothing is written.
pub record AnswersWholeLines (source : SourceSeen) (out : SinkSeen) : Type 0 where
  pub bytes : List ℕ
  pub read : Reads source bytes
  pub put : AllPut (labels_of read.begun) read.begun.set (whole_lines bytes) out.old out.new

-- The input was read to its end, and all its lines behind the line `script` are answered.
pub record AnswersAll (seen : Seen) : Type 0 where
  pub bytes : List ℕ
  pub read : Reads seen.source bytes
  pub ended : IsAtEnd seen.source.new.left
  pub put : AllPut (labels_of read.begun) read.begun.set (lines_of bytes) seen.out.old seen.out.new
  pub silent : Untouched seen.err

-- The set, or a line before those that are answered, is refused at its own place, and nothing was written.
pub record RefusesHead (seen : Seen) : Type 0 where
  pub flaw : LineFlaw
  pub refused : StopsInHead script_word 1 seen.source (Refused flaw)
  pub untouched : Untouched seen.out
  pub said : Says seen.err (err_line (Refused flaw))

-- The source failed. Nothing was written where it did up to the line `script`, and else each whole line before is answered.
pub record FailedRead (seen : Seen) : Type 0 where
  pub failed : ReadFails seen.source
  pub put : Untouched seen.out ⊎ AnswersWholeLines seen.source seen.out
  pub said : Says seen.err (err_line ReadFault)

-- The sink failed, and has a proper front of the answers to the lines that were read.
pub record FailedWrite (seen : Seen) : Type 0 where
  pub bytes : List ℕ
  pub read : Reads seen.source bytes
  pub lines : List (List ℕ)
  pub are_read : AreRead seen.source.new.left bytes lines
  pub put : FailsIn seen.out.old seen.out.new (answers (labels_of read.begun) read.begun.set first_spot lines)
  pub said : Says seen.err (err_line WriteFault)

-- There was no memory, and nothing was written.
pub record HadNoMemory (seen : Seen) : Type 0 where
  pub untouched : Untouched seen.out
  pub said : Says seen.err (err_line Memory)

-- Each whole line is answered of the bytes within the limit, all that were taken but the last one.
pub record AnswersWithin (source : SourceSeen) (out : SinkSeen) : Type 0 where
  pub bytes : List ℕ
  pub read : Reads source bytes
  pub put : AllPut (labels_of read.begun) read.begun.set (whole_lines (take (MAX_TEXT - read.begun.given) bytes)) out.old out.new

-- The source gave one byte more than are read. Nothing was written where it came up to the line `script`.
pub record HadTooMany (seen : Seen) : Type 0 where
  pub many : GivesOneTooMany seen.source
  pub put : Untouched seen.out ⊎ AnswersWithin seen.source seen.out
  pub said : Says seen.err (err_line TooLong)

-- the statuses of a call
abbrev pub IsStatus : ℕ → Type 0
IsStatus status = (status ≡ 0) ⊎ (status ≡ 2) ⊎ (status ≡ 7) ⊎ (status ≡ 8) ⊎ (status ≡ 9) ⊎ (status ≡ 10)

-- All that a call promises.
pub record Promises (seen : Seen) (status : ℕ) : Type 0 where
  -- 0: all lines are answered.
  pub done : status ≡ 0 → AnswersAll seen
  -- 2: the set or a line before is refused; no line behind the line `script` ever is.
  pub two : status ≡ 2 → RefusesHead seen
  -- 7: the source failed. It may fail at any byte: so each answer is on `out` before a byte behind its line is asked for.
  pub seven : status ≡ 7 → FailedRead seen
  -- 8: `out` failed.
  pub eight : status ≡ 8 → FailedWrite seen
  -- 9: there was no memory. This comes behind no answer.
  pub nine : status ≡ 9 → HadNoMemory seen
  -- 10: the input is too long.
  pub ten : status ≡ 10 → HadTooMany seen
  -- There is no other status,
  pub only : IsStatus status
  -- and all of this comes from one relation.
  pub ended : Ended seen.source seen.out seen.err status
