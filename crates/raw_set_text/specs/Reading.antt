-- How far the lines have been read, and what the set that is being built stands for then.
use Rattle.std.specs.Prelude.{◌≡◌, ℕ, ◌+◌, ◌%◌, ◌<◌, ◌≤◌, false, List, [], ◌∷◌, length, Some, None, true, Result, Ok, Err, sum_by, slice_get, OnOk}
use Rattle.raw_set_text.specs.declared.kind.SetKind.TheVariants.{OffGrid, Asm}
use Rattle.raw_set_text.specs.declared.kind.SetRefusal.{SetRefusal}
use Rattle.raw_set_text.specs.declared.kind.SetRefusal.TheVariants as set
use Rattle.raw_set_text.specs.declared.refused.LineRefusal.{LineRefusal}
use Rattle.raw_set_text.specs.declared.refused.LineRefusal.TheVariants.{Fault, Memory}
use Rattle.raw_set_text.specs.declared.declaration.Position.{Position}
use Rattle.raw_set_text.specs.declared.builder.Builder.{Builder}
use Rattle.raw_set_text.specs.Entry.{Entry}
use Rattle.raw_set_text.specs.Entry.Entry.{Data, Show}
use Rattle.raw_set_text.specs.Entries.{columns_of, rows_of, limits_of, depths_of, shows_of}
use Rattle.raw_set_text.specs.Faults.{due_word, shows_in, shown_in, is_outside, number_of_tile, entry_fault}
use Rattle.raw_set_text.specs.Sections.{head_of, entries_before}
use Rattle.raw_asm.specs.declared.kind.AsmRefusal.{AsmRefusal}
use Rattle.raw_asm.specs.declared.kind.AsmRefusal.TheVariants as asm
use Rattle.raw_set_text.specs.Meaning.{AreFaultless, IsCause}
use Rattle.raw_set_text.specs.Answers.{Answers, with_entry}
use Rattle.raw_set_text.specs.Building.{PortsStand, TilesStand}

-- a set that is being built, for these entries, the grid and the limit among them
pub record BuilderStands (builder : Builder) (entries : List Entry) : Type 0 where
  pub begun : due_word entries ≡ None
  pub ports : PortsStand builder.ports entries
  pub tiles : TilesStand builder.tiles entries
  pub limit : limits_of entries ≡ builder.limit ∷ []
  pub depth : slice_get (depths_of entries) 0 ≡ builder.depth
  pub shows : builder.shows.items ≡ shows_of entries
  pub count : length builder.shows.items ≡ sum_by shows_in entries
  pub shown : builder.shown ≡ sum_by shown_in entries

-- an entry is added, or refused with its fault
pub record Adds {T : Type 0} (old new : Builder) (result : Result T LineRefusal) (entry : Entry) : Type 0 where
  pub fault : (entries : List Entry) → BuilderStands old entries → Answers result (entry_fault entries entry)
  pub stands : (entries : List Entry) → BuilderStands old entries → OnOk result (BuilderStands new (with_entry entries entry))

-- the number of a tile of the grid, or the fault that there is no such tile
abbrev pub IsNumbered : List Entry → Position → Result ℕ LineRefusal → Type 0
IsNumbered entries tile (Ok t) = (is_outside (columns_of entries) (rows_of entries) (Some tile) ≡ false) × (t ≡ number_of_tile entries tile)
IsNumbered entries tile (Err (Fault kind)) = (is_outside (columns_of entries) (rows_of entries) (Some tile) ≡ true) × (kind ≡ OffGrid)
IsNumbered entries tile (Err Memory) = ⊥

-- the address of an entry is a multiple of 4
abbrev pub IsAligned : Entry → Type 0
IsAligned (Data tile address words) = address % 4 ≡ 0
IsAligned (Show tile address words) = address % 4 ≡ 0
IsAligned _ = Unit {0}

-- the first k lines are read: they end outside sections, declare these entries, and have no fault
pub record IsRead (lines : List (List (List ℕ))) (k : ℕ) (entries : List Entry) : Type 0 where
  pub within : k ≤ length lines
  pub outside : head_of lines k ≡ None
  pub entries_are : entries_before lines k ≡ entries
  pub faultless : AreFaultless lines k

-- a refusal of the line at a place
abbrev pub located : ℕ → LineRefusal → SetRefusal
located place (Fault kind) = set.At (place + 1) kind
located place Memory = set.Memory

-- a refusal of a line of a section, which is located already
abbrev pub of_section : AsmRefusal → SetRefusal
of_section (asm.At line kind) = set.At line (Asm kind)
of_section asm.Memory = set.Memory

-- the first k lines are read, and the set that is being built stands for what they declare
pub record StandsAt (lines : List (List (List ℕ))) (k : ℕ) (builder : Builder) : Type 0 where
  pub entries : List Entry
  pub read : IsRead lines k entries
  pub stands : BuilderStands builder entries

-- more lines are read, or the refusal names the least faulty one
abbrev pub PassesFrom : List (List (List ℕ)) → ℕ → Builder → Result ℕ SetRefusal → Type 0
PassesFrom lines k builder (Ok next) = (k < next) × StandsAt lines next builder
PassesFrom lines k builder (Err refusal) = IsCause lines refusal
