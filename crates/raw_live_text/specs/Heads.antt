-- What stands before a mark, a line that is one word alone.
use Rattle.std.specs.Prelude.{◌≡◌, ◌⊎◌, ℕ, ◌+◌, ◌<◌, ◌≤◌, if◌then◌else◌, true, not, List, [], ◌∷◌, ◌++◌, length, take, drop, slice_range, Option, Some, None, Result, Ok, Err}
use Rattle.std.specs.Global.{Vec}
use Rattle.std.specs.List.{list_all}
use Rattle.std.specs.Io.KnownBytes.{Consumes, IsAtEnd}
use Rattle.raw_io.specs.Causes.{Rose}
use Rattle.raw_io.specs.Sights.{SourceSight}
use Rattle.raw_text.specs.Lines.{is_newline, lines_of, tokens_of, line_fault, first_fault}
use Rattle.raw_text.specs.Text.{is_word}
use Rattle.raw_text.specs.declared.lines.TextRefusal.{TextRefusal}
use Rattle.raw_text.specs.declared.lines.TextRefusal.TheVariants as refusal
use Rattle.raw_live_text.specs.declared.fault.LineFault.{LineFault}
use Rattle.raw_live_text.specs.declared.fault.LineFault.TheVariants.{NotAscii, LineTooLong}
use Rattle.raw_live_text.specs.declared.stop.Stop.{Stop}
use Rattle.raw_live_text.specs.declared.stop.Stop.TheVariants.{At, Read, TooLong, Memory}
use Rattle.raw_live_text.specs.declared.head.HeadEnd.{HeadEnd}
use Rattle.raw_live_text.specs.declared.head.HeadEnd.TheVariants.{Open, Mark, Fault}
use Rattle.raw_live_text.specs.declared.head.Head.{Head}
use Rattle.raw_live_text.specs.declared.head.LinePlace.{LinePlace}
use Rattle.raw_live_text.specs.declared.head.Found.{Found}
use Rattle.raw_live_text.specs.declared.head.Found.TheVariants as found
use Rattle.raw_live_text.specs.Feeding.{whole_lines, last_piece}

-- a fault of the bytes of a line comes first
abbrev pub unless_fault : Option TextRefusal → HeadEnd → HeadEnd
unless_fault None end = end
unless_fault (Some (refusal.NotAscii line)) end = Fault line NotAscii
unless_fault (Some (refusal.LineTooLong line)) end = Fault line LineTooLong
unless_fault (Some refusal.Memory) end = end

-- a line that is the word alone ends the head
abbrev pub word_end : List ℕ → ℕ → List (List ℕ) → HeadEnd
word_end word number tokens = if is_word word tokens then Mark number else Open

-- how the line of this number ends the head: by a fault of its bytes, or as the word alone
unfoldable pub line_end : List ℕ → ℕ → List ℕ → HeadEnd
line_end word number line = unless_fault (line_fault number line) (word_end word number (tokens_of line))

abbrev pub first_end : HeadEnd → HeadEnd → HeadEnd
first_end Open next = next
first_end (Mark line) next = Mark line
first_end (Fault line kind) next = Fault line kind

-- how the first of the lines that ends the head does so, where they are numbered from here on
abbrev pub head_of : List ℕ → ℕ → List (List ℕ) → HeadEnd
head_of word number [] = Open
head_of word number (line ∷ lines) = first_end (line_end word number line) (head_of word (number + 1) lines)

-- the first fault of the bytes of lines is the one that this kind tells, in this line
abbrev pub IsFaultOf : ℕ → LineFault → Option TextRefusal → Type 0
IsFaultOf line NotAscii fault = fault ≡ Some (refusal.NotAscii line)
IsFaultOf line LineTooLong fault = fault ≡ Some (refusal.LineTooLong line)
IsFaultOf line _ fault = ⊥

-- a newline stands behind the mark, and `rest` behind that. So more bytes only go on with the lines behind the mark
pub record GoesOn (bytes set mark rest : List ℕ) : Type 0 where
  pub is : bytes ≡ set ++ mark ++ 10 ∷ rest
  pub lines : (more : List ℕ) → lines_of (bytes ++ more) ≡ lines_of set ++ mark ∷ lines_of (rest ++ more)
  pub whole : (more : List ℕ) → whole_lines (bytes ++ more) ≡ lines_of set ++ mark ∷ whole_lines (rest ++ more)

-- the mark is the last line, and no newline stands behind it
pub record EndsThere (bytes set mark rest : List ℕ) : Type 0 where
  pub is : bytes ≡ set ++ mark
  pub none : rest ≡ []
  pub lines : lines_of bytes ≡ lines_of set ++ mark ∷ []
  pub whole : whole_lines bytes ≡ lines_of set

-- the bytes have the mark behind those of the set, and `rest` behind that line
pub record IsMarked (word : List ℕ) (left : Option (List ℕ)) (bytes set rest : List ℕ) : Type 0 where
  pub mark : List ℕ
  pub first : head_of word 1 (lines_of set ++ mark ∷ []) ≡ Mark (length (lines_of set) + 1)
  pub before : head_of word 1 (lines_of set) ≡ Open
  pub faultless : first_fault 1 (lines_of set) ≡ None
  pub behind : GoesOn bytes set mark rest ⊎ IsAtEnd left × EndsThere bytes set mark rest
  pub size : length set + length rest ≤ length bytes

-- no line ends the head
pub record IsUnmarked (word : List ℕ) (left : Option (List ℕ)) (bytes set : List ℕ) : Type 0 where
  pub end : IsAtEnd left
  pub all : set ≡ bytes
  pub lines : head_of word 1 (lines_of bytes) ≡ Open
  pub faultless : first_fault 1 (lines_of bytes) ≡ None

-- the bytes are cut into the set and what stands behind the mark, if there is a mark
abbrev pub IsSplit : List ℕ → Option (List ℕ) → List ℕ → List ℕ → Option (Vec ℕ) → Type 0
IsSplit word left bytes set None = IsUnmarked word left bytes set
IsSplit word left bytes set (Some rest) = IsMarked word left bytes set rest.items

-- fewer bytes than a piece were read behind the mark, if there is a mark
abbrev pub IsWithin : ℕ → Option (Vec ℕ) → Type 0
IsWithin piece None = Unit {0}
IsWithin piece (Some rest) = length rest.items < piece

-- what the bytes that were read are, by how the reading ended
abbrev pub HeadAs : List ℕ → ℕ → SourceSight → SourceSight → ℕ → List ℕ → Result Head Stop → Type 0
HeadAs word piece old new most bytes (Ok head) = (length bytes ≤ most) × (head.given ≡ length bytes) × IsSplit word new.left bytes head.set.items head.rest × IsWithin piece head.rest
HeadAs word piece old new most bytes (Err (At line kind)) =
    (head_of word 1 (whole_lines bytes) ≡ Fault line kind) ⊎ IsAtEnd new.left × (head_of word 1 (lines_of bytes) ≡ Fault line kind)
HeadAs word piece old new most bytes (Err Read) = (length bytes ≤ most) × Rose old.faults new.faults × (head_of word 1 (whole_lines bytes) ≡ Open)
HeadAs word piece old new most bytes (Err TooLong) = (length bytes ≡ most + 1) × (head_of word 1 (whole_lines (take most bytes)) ≡ Open)
HeadAs word piece old new most bytes (Err Memory) = Unit {0}

-- behind bytes of which no whole line ends the head, at most one piece more was asked for
pub record EndsInPiece (word : List ℕ) (size : ℕ) (bytes : List ℕ) : Type 0 where
  pub front : List ℕ
  pub piece : List ℕ
  pub is : bytes ≡ front ++ piece
  pub short : length piece ≤ size
  pub unended : head_of word 1 (whole_lines front) ≡ Open

-- the bytes that were read, and what they are
pub record ReadsHead (word : List ℕ) (piece : ℕ) (old new : SourceSight) (most : ℕ) (result : Result Head Stop) : Type 0 where
  pub bytes : List ℕ
  pub taken : Consumes old.left new.left bytes
  pub counted : new.given ≡ old.given + length bytes
  pub prompt : EndsInPiece word piece bytes
  pub bounded : length bytes ≤ most + 1
  pub meant : HeadAs word piece old new most bytes result

-- whole lines that do not end the head stand in front, and the line of this number begins behind them
pub record Begins (word front line : List ℕ) (number : ℕ) : Type 0 where
  pub closed : length (last_piece front) ≡ 0
  pub unended : head_of word 1 (whole_lines front) ≡ Open
  pub counted : number ≡ length (whole_lines front) + 1
  pub free : list_all (λ b. not (is_newline b)) line ≡ true

-- the line that is not whole behind the first bytes, so many, stands at this place
pub record StandsAt (word bytes : List ℕ) (seen : ℕ) (place : LinePlace) : Type 0 where
  pub within : place.start ≤ seen
  pub few : place.number ≤ place.start + 1
  pub begins : Begins word (take place.start bytes) (slice_range bytes place.start seen) place.number

-- the line from `start` up to the newline before `behind` is the mark, and that newline stands at `from` or later
pub record MarkAt (word bytes : List ℕ) (from start behind : ℕ) : Type 0 where
  pub order : start ≤ behind
  pub later : from < behind
  pub within : behind ≤ length bytes
  pub marked : (left : Option (List ℕ)) → IsMarked word left bytes (take start bytes) (drop behind bytes)

-- what the lines show that end in the first bytes, so many, and none of them before `from`
abbrev pub FoundAs : List ℕ → List ℕ → ℕ → ℕ → Found → Type 0
FoundAs word bytes from seen (found.Open place) = StandsAt word bytes seen place
FoundAs word bytes from seen (found.Mark start behind) = MarkAt word bytes from start behind
FoundAs word bytes from seen (found.Fault line kind) = head_of word 1 (whole_lines bytes) ≡ Fault line kind

abbrev pub IsRest : Option (Vec ℕ) → List ℕ → Type 0
IsRest None rest = ⊥
IsRest (Some bytes) rest = bytes.items ≡ rest

-- the bytes before `start`, and those from `behind` on
abbrev pub IsCut : List ℕ → ℕ → ℕ → Result Head Stop → Type 0
IsCut bytes start behind (Ok head) = (head.set.items ≡ take start bytes) × IsRest head.rest (drop behind bytes) × (head.given ≡ length bytes)
IsCut bytes start behind (Err stop) = stop ≡ Memory

-- what all bytes of an input are
abbrev pub EndsAs : List ℕ → List ℕ → Result Head Stop → Type 0
EndsAs word bytes (Ok head) = (head.given ≡ length bytes) × ((left : Option (List ℕ)) → IsAtEnd left → IsSplit word left bytes head.set.items head.rest) × IsWithin 1 head.rest
EndsAs word bytes (Err (At line kind)) = head_of word 1 (lines_of bytes) ≡ Fault line kind
EndsAs word bytes (Err Memory) = Unit {0}
EndsAs word bytes _ = ⊥
