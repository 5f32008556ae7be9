-- What stands once the line `live` was reached: what was read, and what was written of it.
use Rattle.std.specs.Prelude.{◌≡◌, ◌⊎◌, ℕ, ◌+◌, ◌≤◌, List, ◌++◌, length, take, drop, Some, None, Ok, Err}
use Rattle.std.specs.Io.KnownBytes.{Consumes, IsAtEnd}
use Rattle.raw_io.specs.Writing.{AppendsFront}
use Rattle.raw_text.specs.Lines.{lines_of}
use Rattle.raw_model.specs.Program.{ProgramSet}
use Rattle.raw_queue.specs.declared.item.Item.{Item}
use Rattle.raw_live_text.specs.declared.head.HeadEnd.TheVariants.{Open}
use Rattle.raw_live_text.specs.Feeding.{Fed, fed, whole_lines, BeginsItems, IsPiece, AreRead}
use Rattle.raw_live_text.specs.Heads.{head_of}
use Rattle.raw_live.specs.Engine.{with_items, AreSets}
use Rattle.raw_live.specs.Due.{live_text, due_text}
use Rattle.raw_live.specs.Lives.{WritesOrFails, FailsIn, WritesToRest}
use Rattle.raw_shell.specs.declared.failure.Failure.TheVariants.{Use, Refused, ReadFault, WriteFault, Memory, TooLong}
use Rattle.raw_shell.specs.Seen.{SourceSeen, SinkSeen, ReadFails, limit}
use Rattle.raw_live_head.specs.declared.flaw.LineFlaw.TheVariants.{Put}
use Rattle.raw_live_run.specs.Answers.{Answer}
use Rattle.raw_live_run.specs.Live.{live_word, SaysWords, put_by}

-- the words were put by lines without a fault
abbrev pub AreAllPut : Fed → List Item → Type 0
AreAllPut put words = (put.fault ≡ None) × (words ≡ put.items)

-- the input was read to its end, and no line is faulty
pub record IsReadWhole (source : SourceSeen) (bytes : List ℕ) (lines : List (List ℕ)) (put : Fed) (words : List Item) : Type 0 where
  pub ended : IsAtEnd source.new.left
  pub few : length bytes ≤ limit
  pub all : lines ≡ lines_of bytes
  pub words_are : AreAllPut put words

-- which lines were read of the bytes, and which words were handed on, by the answer
abbrev pub IsReadAs : SourceSeen → List ℕ → List (List ℕ) → Fed → List Item → Answer → Type 0
IsReadAs source bytes lines put words (Ok how) = IsReadWhole source bytes lines put words
IsReadAs source bytes lines put words (Err (Refused (Put line kind))) =
    AreRead source.new.left bytes lines × (put.fault ≡ Some (line, kind)) × (words ≡ put.items)
IsReadAs source bytes lines put words (Err ReadFault) = (length bytes ≤ limit) × ReadFails source × AreRead source.new.left bytes lines × AreAllPut put words
IsReadAs source bytes lines put words (Err TooLong) =
    (length bytes ≡ limit + 1) × (lines ≡ whole_lines (take limit bytes)) × AreAllPut put words
IsReadAs source bytes lines put words (Err WriteFault) = IsReadWhole source bytes lines put words
IsReadAs source bytes lines put words (Err Memory) = (lines ≡ lines_of bytes) × BeginsItems words put.items
IsReadAs source bytes lines put words _ = ⊥

-- behind bytes in which no whole line ends the head, or no whole line behind the mark is faulty, at most one piece more was read
pub record StopsInPiece {lines : List (List ℕ)} (says : SaysWords lines) (bytes : List ℕ) : Type 0 where
  pub front : List ℕ
  pub piece : List ℕ
  pub is : bytes ≡ front ++ piece
  pub short : IsPiece piece
  pub open_yet : (head_of live_word 1 (whole_lines front) ≡ Open) ⊎ ((fed says.intake (drop (says.place + 1) (whole_lines front))).fault ≡ None)

-- what was written, by the answer: all that is due, all of its lines but the last, or a front
abbrev pub IsWrittenAs : SinkSeen → ProgramSet → List Item → Answer → Type 0
IsWrittenAs out first words (Ok how) = WritesToRest out.old out.new (due_text first words) (with_items first words) how
IsWrittenAs out first words (Err (Refused flaw)) = WritesOrFails out.old out.new (live_text first words)
IsWrittenAs out first words (Err ReadFault) = WritesOrFails out.old out.new (live_text first words)
IsWrittenAs out first words (Err TooLong) = WritesOrFails out.old out.new (live_text first words)
IsWrittenAs out first words (Err WriteFault) = FailsIn out.old out.new (due_text first words)
IsWrittenAs out first words (Err Memory) = AppendsFront out.old.bytes out.new.bytes (live_text first words)
IsWrittenAs out first words (Err Use) = ⊥

-- Bytes were read and a text was written. The lines of the bytes say a set and words for it, as they were handed on, and these decide
-- what was written.
pub record Reached (source : SourceSeen) (out : SinkSeen) (answer : Answer) : Type 0 where
  pub bytes : List ℕ
  pub taken : Consumes source.old.left source.new.left bytes
  pub counted : source.new.given ≡ source.old.given + length bytes
  pub lines : List (List ℕ)
  pub says : SaysWords lines
  pub prompt : StopsInPiece says bytes
  pub bounded : length bytes ≤ limit + 1
  pub words : List Item
  pub read : IsReadAs source bytes lines (put_by says) words answer
  pub valid : AreSets says.first words
  pub written : IsWrittenAs out says.first words answer
