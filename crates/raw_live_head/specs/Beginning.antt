-- The set before a mark, or why it is not read.
use Rattle.std.specs.Prelude.{◌≡◌, ◌⊎◌, ℕ, ◌+◌, ◌<◌, ◌≤◌, List, length, take, Option}
use Rattle.std.specs.Io.KnownBytes.{Consumes, IsAtEnd}
use Rattle.raw_io.specs.Sights.{SourceSight}
use Rattle.raw_text.specs.Lines.{lines_of}
use Rattle.raw_text.specs.Text.{text_lines}
use Rattle.raw_model.specs.Program.{ProgramSet}
use Rattle.raw_set_text.specs.declared.kind.SetKind.{SetKind}
use Rattle.raw_set_text.specs.declared.kind.SetKind.TheVariants.{Missing}
use Rattle.raw_set_text.specs.declared.kind.SetRefusal.TheVariants.{At}
use Rattle.raw_set_text.specs.Meaning.{IsMeaning, IsCause}
use Rattle.raw_set_text.specs.Texts.{token_lines}
use Rattle.raw_live_text.specs.declared.head.HeadEnd.TheVariants.{Open, Fault}
use Rattle.raw_live_text.specs.declared.fault.LineFault.{LineFault}
use Rattle.raw_live_text.specs.Feeding.{whole_lines}
use Rattle.raw_live_text.specs.Heads.{head_of, IsMarked, EndsInPiece}
use Rattle.raw_shell.specs.declared.failure.Failure.TheVariants.{Refused, ReadFault, Memory, TooLong}
use Rattle.raw_shell.specs.Seen.{SourceSeen, ReadFails, limit}
use Rattle.raw_live_head.specs.declared.flaw.LineFlaw.TheVariants.{Set, Put}
use Rattle.raw_live_head.specs.declared.beginning.Begun.{Begun}
use Rattle.raw_live_head.specs.Flaws.{Failure}

-- why lines are not read as a set
abbrev pub IsSetCause : List (List (List ℕ)) → Failure → Type 0
IsSetCause lines (Refused (Set line kind)) = IsCause lines (At line kind)
IsSetCause lines Memory = Unit {0}
IsSetCause lines _ = ⊥

-- a set and the mark were read, and behind that fewer bytes than a piece
pub record Begins (word : List ℕ) (piece : ℕ) (old new : SourceSight) (begun : Begun) : Type 0 where
  pub bytes : List ℕ
  pub taken : Consumes old.left new.left bytes
  pub counted : new.given ≡ old.given + length bytes
  pub count : old.faults ≤ new.faults
  pub prompt : EndsInPiece word piece bytes
  pub few : length bytes ≤ limit
  pub given : begun.given ≡ length bytes
  pub text : List ℕ
  pub marked : IsMarked word new.left bytes text begun.rest.items
  pub near : length begun.rest.items < piece
  pub meaning : IsMeaning (token_lines text) begun.set
  pub lines : text_lines begun.text ≡ token_lines text
  pub line : begun.line ≡ length (lines_of text) + 2
  pub small : begun.line ≤ limit + 2

-- the lines before the mark have this least fault
pub record FaultBeforeMark (word : List ℕ) (left : Option (List ℕ)) (bytes : List ℕ) (line : ℕ) (kind : SetKind) : Type 0 where
  pub text : List ℕ
  pub rest : List ℕ
  pub marked : IsMarked word left bytes text rest
  pub cause : IsCause (token_lines text) (At line kind)

-- the lines mean a set, and the mark is missing; that is told behind the last line
pub record LacksMark (bytes : List ℕ) (line : ℕ) (kind : SetKind) : Type 0 where
  pub set : ProgramSet
  pub meaning : IsMeaning (token_lines bytes) set
  pub line_is : line ≡ length (lines_of bytes) + 1
  pub kind_is : kind ≡ Missing

-- there is no mark, and the lines of the whole input have this least fault, or only the mark is missing
pub record FaultWithoutMark (word : List ℕ) (left : Option (List ℕ)) (bytes : List ℕ) (line : ℕ) (kind : SetKind) : Type 0 where
  pub end : IsAtEnd left
  pub open_lines : head_of word 1 (lines_of bytes) ≡ Open
  pub cause : IsCause (token_lines bytes) (At line kind) ⊎ LacksMark bytes line kind

-- a line that is faulty as a line of text stands before any mark
abbrev pub FaultOfLine : List ℕ → Option (List ℕ) → List ℕ → ℕ → LineFault → Type 0
FaultOfLine word left bytes line kind =
    (head_of word 1 (whole_lines bytes) ≡ Fault line kind) ⊎ IsAtEnd left × (head_of word 1 (lines_of bytes) ≡ Fault line kind)

-- why the head was not read, of which these bytes were
abbrev pub HeadCause : List ℕ → SourceSeen → List ℕ → Failure → Type 0
HeadCause word source bytes (Refused (Put line kind)) = FaultOfLine word source.new.left bytes line kind
HeadCause word source bytes (Refused (Set line kind)) = FaultBeforeMark word source.new.left bytes line kind ⊎ FaultWithoutMark word source.new.left bytes line kind
HeadCause word source bytes ReadFault = (length bytes ≤ limit) × ReadFails source × (head_of word 1 (whole_lines bytes) ≡ Open)
HeadCause word source bytes TooLong = (length bytes ≡ limit + 1) × (head_of word 1 (whole_lines (take limit bytes)) ≡ Open)
HeadCause word source bytes Memory = Unit {0}
HeadCause word source bytes _ = ⊥

-- the bytes that were read before the reading ended in the head, and why: at most one piece behind lines that do not end it
pub record StopsInHead (word : List ℕ) (piece : ℕ) (source : SourceSeen) (failure : Failure) : Type 0 where
  pub bytes : List ℕ
  pub taken : Consumes source.old.left source.new.left bytes
  pub counted : source.new.given ≡ source.old.given + length bytes
  pub prompt : EndsInPiece word piece bytes
  pub bounded : length bytes ≤ limit + 1
  pub cause : HeadCause word source bytes failure
