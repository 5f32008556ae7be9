-- The answers to lines that are read byte by byte.
use Rattle.std.specs.Prelude.{◌≡◌, ℕ, ◌+◌, ◌≤◌, List, length, take, Result, Ok, Err}
use Rattle.std.specs.Io.KnownBytes.{Consumes, Appends, IsAtEnd}
use Rattle.raw_io.specs.Causes.{Rose}
use Rattle.raw_io.specs.Sights.{Sight, SourceSight}
use Rattle.raw_io.specs.Writing.{AppendsProperFront}
use Rattle.raw_io.specs.declared.Failed.{Failed}
use Rattle.raw_text.specs.Lines.{lines_of}
use Rattle.raw_model.specs.Program.{ProgramSet}
use Rattle.raw_live_text.specs.Feeding.{whole_lines, last_piece, AreRead}
use Rattle.raw_debug.specs.Commands.{LabelPlaces}
use Rattle.raw_debug.specs.Script.{first_spot}
use Rattle.raw_debug.specs.Live.{Session, answers, spot_after}
use Rattle.raw_debug_live.specs.declared.answering.Halt.{Halt}
use Rattle.raw_debug_live.specs.declared.answering.Halt.TheVariants.{Read, Write, TooLong}
use Rattle.raw_debug_live.specs.declared.line.LineStart.{LineStart}
use Rattle.raw_debug_live.specs.Bytes.{held}

-- Behind these bytes the lines that a newline ends are answered, and the debugger stands where they led; of the line that is not
-- whole yet its first bytes are held.
pub record At (labels : LabelPlaces) (set : ProgramSet) (bytes : List ℕ) (before now : Sight) (debugger : Session) (line : LineStart) : Type 0 where
  pub set_is : debugger.set ≡ set
  pub spot : debugger.spot ≡ spot_after labels set first_spot (whole_lines bytes)
  pub piece : line.bytes.items ≡ held (last_piece bytes)
  pub put : Appends before.bytes now.bytes (answers labels set first_spot (whole_lines bytes))
  pub later : before.faults ≤ now.faults

-- a sink failed in the course of a text, of which a proper front was put
pub record FailsIn (before now : Sight) (text : List ℕ) : Type 0 where
  pub front : AppendsProperFront before.bytes now.bytes text
  pub fault : Rose before.faults now.faults

abbrev pub AtAfter : LabelPlaces → ProgramSet → List ℕ → Sight → Sight → Session → LineStart → Result (Unit {0}) Failed → Type 0
AtAfter labels set bytes before now debugger line (Ok x) = At labels set bytes before now debugger line
AtAfter labels set bytes before now debugger line (Err e) = FailsIn before now (answers labels set first_spot (whole_lines bytes))

-- all lines are answered, also the last one, which no newline ends
pub record AllPut (labels : LabelPlaces) (set : ProgramSet) (lines : List (List ℕ)) (before now : Sight) : Type 0 where
  pub put : Appends before.bytes now.bytes (answers labels set first_spot lines)
  pub later : before.faults ≤ now.faults

abbrev pub Finished : LabelPlaces → ProgramSet → List ℕ → Sight → Sight → Result (Unit {0}) Failed → Type 0
Finished labels set bytes before now (Ok x) = AllPut labels set (lines_of bytes) before now
Finished labels set bytes before now (Err e) = FailsIn before now (answers labels set first_spot (lines_of bytes))

-- what was answered of the bytes, by how the reading ended
abbrev pub AnsweredAs : SourceSight → SourceSight → Sight → Sight → LabelPlaces → ProgramSet → ℕ → List ℕ → Result (Unit {0}) Halt → Type 0
AnsweredAs old new before now labels set most bytes (Ok x) = IsAtEnd new.left × (length bytes ≤ most) × AllPut labels set (lines_of bytes) before now
AnsweredAs old new before now labels set most bytes (Err Read) =
    Rose old.faults new.faults × (length bytes ≤ most) × AllPut labels set (whole_lines bytes) before now
AnsweredAs old new before now labels set most bytes (Err TooLong) =
    (length bytes ≡ most + 1) × AllPut labels set (whole_lines (take most bytes)) before now
AnsweredAs old new before now labels set most bytes (Err Write) =
    (length bytes ≤ most) × ((lines : List (List ℕ)) × AreRead new.left bytes lines × FailsIn before now (answers labels set first_spot lines))

-- the bytes that were taken, and what was answered of them
pub record Answers (old new : SourceSight) (before now : Sight) (labels : LabelPlaces) (set : ProgramSet) (most : ℕ) (result : Result (Unit {0}) Halt) : Type 0 where
  pub bytes : List ℕ
  pub taken : Consumes old.left new.left bytes
  pub counted : new.given ≡ old.given + length bytes
  pub answered : AnsweredAs old new before now labels set most bytes result
  pub later : old.faults ≤ new.faults
