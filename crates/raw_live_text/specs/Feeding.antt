-- What is handed on of the lines behind `live`, up to the first fault.
use Rattle.std.specs.Prelude.{◌≡◌, ◌⊎◌, ℕ, ◌+◌, ◌-◌, ◌^◌, ◌<◌, ◌≤◌, ◌==◌, if◌then◌else◌, List, [], ◌∷◌, ◌++◌, length, take, slice_get, Option, Some, None, Result, Ok, Err}
use Rattle.std.specs.Option.{option_map}
use Rattle.std.specs.List.{slice_split}
use Rattle.std.specs.Io.KnownBytes.{Consumes, IsAtEnd}
use Rattle.raw_io.specs.Causes.{Rose}
use Rattle.raw_io.specs.Sights.{SourceSight}
use Rattle.raw_text.specs.Lines.{is_newline, lines_of}
use Rattle.raw_grid.specs.declared.parts.PortPlace.{PortPlace}
use Rattle.raw_grid.specs.declared.parts.PortKind.TheVariants as kind
use Rattle.raw_queue.specs.declared.item.Item.{Item}
use Rattle.raw_queue.specs.declared.item.Item.TheVariants as item
use Rattle.raw_live_text.specs.declared.intake.Intake.{Intake}
use Rattle.raw_live_text.specs.declared.progress.Progress.{Progress}
use Rattle.raw_live_text.specs.declared.reader.TheConstants.{PIECE}
use Rattle.raw_live_text.specs.declared.fault.LineFault.{LineFault}
use Rattle.raw_live_text.specs.declared.fault.LineFault.TheVariants.{OverLimit}
use Rattle.raw_live_text.specs.declared.put.Said.{Said}
use Rattle.raw_live_text.specs.declared.put.Said.TheVariants.{Nothing, Word, Fault}
use Rattle.raw_live_text.specs.declared.stop.Stop.{Stop}
use Rattle.raw_live_text.specs.declared.stop.Stop.TheVariants.{At, Read, TooLong, Memory}
use Rattle.raw_live_text.specs.Puts.{says}

abbrev pub but_last : List (List ℕ) → List (List ℕ)
but_last (piece ∷ next ∷ more) = piece ∷ but_last (next ∷ more)
but_last _ = []

abbrev pub last_of : List (List ℕ) → List ℕ
last_of [] = []
last_of (piece ∷ []) = piece
last_of (piece ∷ next ∷ more) = last_of (next ∷ more)

-- the lines that a newline ends
unfoldable pub whole_lines : List ℕ → List (List ℕ)
whole_lines bytes = but_last (slice_split is_newline bytes)

-- the lines that were read: those that a newline ends, or at the end of input all
abbrev pub AreRead : Option (List ℕ) → List ℕ → List (List ℕ) → Type 0
AreRead left bytes lines = (lines ≡ whole_lines bytes) ⊎ IsAtEnd left × (lines ≡ lines_of bytes)

-- what stands behind the last newline
unfoldable pub last_piece : List ℕ → List ℕ
last_piece bytes = last_of (slice_split is_newline bytes)

-- what is known behind some lines: the number of the next line, the words of those so far, and the first fault with the
-- number of its line
pub record Fed : Type 0 where
  pub number : ℕ
  pub items : List Item
  pub fault : Option (ℕ × LineFault)

abbrev pub open_at : ℕ → List Item → Fed
open_at number items = record { number = number; items = items; fault = None }

abbrev pub faulty_at : ℕ → List Item → LineFault → Fed
faulty_at number items kind = record { number = number; items = items; fault = Some (number, kind) }

-- what the line of this number adds; no word is put where there is no room
abbrev pub with_said : Intake → ℕ → List Item → Said → Fed
with_said intake number items Nothing = open_at (number + 1) items
with_said intake number items (Word port word) =
    if length items == intake.room then faulty_at number items OverLimit else open_at (number + 1) (items ++ item.Word port word ∷ [])
with_said intake number items (Fault kind) = faulty_at number items kind

-- behind a fault nothing is read
abbrev pub unless_faulty : Option (ℕ × LineFault) → Fed → Fed → Fed
unless_faulty None next stays = next
unless_faulty (Some fault) next stays = stays

unfoldable pub after_line : Intake → Fed → List ℕ → Fed
after_line intake s line = unless_faulty s.fault (with_said intake s.number s.items (says intake line)) s

abbrev pub after_lines : Intake → Fed → List (List ℕ) → Fed
after_lines intake s [] = s
after_lines intake s (line ∷ lines) = after_lines intake (after_line intake s line) lines

-- what the lines behind `live` put, up to the first fault
unfoldable pub fed : Intake → List (List ℕ) → Fed
fed intake lines = after_lines intake (open_at intake.line []) lines

-- the items are words of 32 bits, each for a source of those that lines are judged by
abbrev pub AreForSources : Intake → List Item → Type 0
AreForSources intake [] = Unit {0}
AreForSources intake (item.Word port word ∷ items) =
    (option_map (λ (place : PortPlace). place.kind) (slice_get intake.places.items (port - intake.first_port)) ≡ Some kind.Source) × (word < 2 ^ 32) × AreForSources intake items
AreForSources intake (item.End ∷ items) = ⊥

-- one list is a front of another
pub record BeginsItems (front whole : List Item) : Type 0 where
  pub rest : List Item
  pub is : whole ≡ front ++ rest

-- what a call did that was to bring the number of the line and the items to this
abbrev pub Handled : Fed → ℕ → List Item → Result (Unit {0}) Stop → Type 0
Handled to number items (Ok x) = to ≡ open_at number items
Handled to number items (Err (At line kind)) = (to.fault ≡ Some (line, kind)) × (to.items ≡ items)
Handled to number items (Err Memory) = BeginsItems items to.items
Handled to number items _ = ⊥

-- the words that were handed on are counted, there is room for them, and so many line numbers more are there
pub record IsCounted (intake : Intake) (so_far : Progress) (items : List Item) (lines : ℕ) : Type 0 where
  pub words : so_far.words ≡ length items
  pub room : so_far.words ≤ intake.room
  pub number : so_far.number + lines < 2 ^ 32

-- the same behind bytes that end at most so many lines
pub record IsCountedAfter (intake : Intake) (old new : Progress) (items : List Item) (lines : ℕ) : Type 0 where
  pub words : new.words ≡ length items
  pub room : new.words ≤ intake.room
  pub number : new.number ≤ old.number + lines

-- what is known and what was handed on behind these bytes
pub record IntakeStands (intake : Intake) (bytes : List ℕ) (so_far : Progress) (items : List Item) : Type 0 where
  pub lines : fed intake (whole_lines bytes) ≡ open_at so_far.number items
  pub last : last_piece bytes ≡ so_far.line.items

abbrev pub StandsAfter : Intake → List ℕ → Progress → List Item → Result (Unit {0}) Stop → Type 0
StandsAfter intake bytes so_far items (Ok x) = IntakeStands intake bytes so_far items
StandsAfter intake bytes so_far items (Err stop) = Handled (fed intake (whole_lines bytes)) so_far.number items (Err stop)

-- the source gave so many bytes behind `rest`, and the words of all lines that are whole with them were put
pub record IsPutSoFar (intake : Intake) (rest : List ℕ) (now : SourceSight) (count : ℕ) (so_far : Progress) (items : List Item) : Type 0 where
  pub first : SourceSight
  pub bytes : List ℕ
  pub taken : Consumes first.left now.left bytes
  pub counted : now.given ≡ first.given + count
  pub many : length bytes ≡ count
  pub stands : IntakeStands intake (rest ++ bytes) so_far items

-- no line has a fault, and the items are the words of the lines
abbrev pub AreWords : Fed → List Item → Type 0
AreWords to items = (to.fault ≡ None) × (to.items ≡ items)

-- what was handed on of the bytes, of which `rest` were read before, by how the reading ended
abbrev pub ReadAs : SourceSight → SourceSight → Intake → List ℕ → ℕ → List ℕ → List Item → Result (Unit {0}) Stop → Type 0
ReadAs old new intake rest most bytes items (Ok x) =
    IsAtEnd new.left × (length bytes ≤ most) × AreWords (fed intake (lines_of (rest ++ bytes))) items
ReadAs old new intake rest most bytes items (Err (At line kind)) =
    ((fed intake (whole_lines (rest ++ bytes))).fault ≡ Some (line, kind)) × ((fed intake (whole_lines (rest ++ bytes))).items ≡ items)
    ⊎ IsAtEnd new.left × ((fed intake (lines_of (rest ++ bytes))).fault ≡ Some (line, kind)) × ((fed intake (lines_of (rest ++ bytes))).items ≡ items)
ReadAs old new intake rest most bytes items (Err Read) =
    (length bytes ≤ most) × Rose old.faults new.faults × AreWords (fed intake (whole_lines (rest ++ bytes))) items
ReadAs old new intake rest most bytes items (Err TooLong) =
    (length bytes ≡ most + 1) × AreWords (fed intake (whole_lines (rest ++ take most bytes))) items
ReadAs old new intake rest most bytes items (Err Memory) = BeginsItems items (fed intake (lines_of (rest ++ bytes))).items

-- no more bytes than a source is asked for in one call
abbrev pub IsPiece : List ℕ → Type 0
IsPiece bytes = length bytes ≤ PIECE

-- behind bytes in whose whole lines there is no fault, at most one piece more was asked for
pub record StopsInPiece (intake : Intake) (rest bytes : List ℕ) : Type 0 where
  pub front : List ℕ
  pub piece : List ℕ
  pub is : bytes ≡ front ++ piece
  pub short : IsPiece piece
  pub faultless : (fed intake (whole_lines (rest ++ front))).fault ≡ None

-- a faulty line ends the reading once it is whole: nothing is read where it stands in what was read before
abbrev pub IsPrompt : Intake → List ℕ → List ℕ → Type 0
IsPrompt intake rest bytes = (bytes ≡ []) ⊎ StopsInPiece intake rest bytes

-- the bytes that were read, and the words that were handed on
pub record Reads (old new : SourceSight) (intake : Intake) (rest : List ℕ) (most : ℕ) (items : List Item) (result : Result (Unit {0}) Stop) : Type 0 where
  pub bytes : List ℕ
  pub taken : Consumes old.left new.left bytes
  pub counted : new.given ≡ old.given + length bytes
  pub prompt : IsPrompt intake rest bytes
  pub bounded : length bytes ≤ most + 1
  pub meant : ReadAs old new intake rest most bytes items result

-- the end follows the words, but where memory was wanted
abbrev pub EndedWith : List Item → List Item → Result (Unit {0}) Stop → Type 0
EndedWith words items (Err Memory) = items ≡ words
EndedWith words items _ = items ≡ words ++ item.End ∷ []

-- the words that were handed on, and the end behind them
pub record ReadsAll (old new : SourceSight) (intake : Intake) (rest : List ℕ) (most : ℕ) (items : List Item) (result : Result (Unit {0}) Stop) : Type 0 where
  pub words : List Item
  pub reads : Reads old new intake rest most words result
  pub ended : EndedWith words items result
