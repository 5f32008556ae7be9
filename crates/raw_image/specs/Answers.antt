-- What the functions of this crate answer, and what they ask.
use Rattle.std.specs.Prelude.{◌≡◌, ◌⊎◌, ℕ, ◌<◌, ◌^◌, List, length, Result, Ok, Err}
use Rattle.raw_model.specs.Program.{ProgramSet, TileProgram}
use Rattle.raw_image.specs.declared.kind.ImageKind.{ImageKind}
use Rattle.raw_image.specs.declared.kind.ImageRefusal.{ImageRefusal}
use Rattle.raw_image.specs.declared.kind.ImageRefusal.TheVariants.{At, Memory}
use Rattle.raw_image.specs.declared.reader.Parts.{Parts}
use Rattle.raw_image.specs.Image.{Image, ImageFault}

-- the set of what was read
abbrev pub set_with : Parts → ProgramSet
set_with parts = record { topo = parts.topo; limit = parts.limit; depth = parts.depth; ports = parts.ports.items; tiles = parts.tiles.items; shows = parts.shows.items }

-- each list of a tile has a number of 32 bits
pub record IsCounted (tile : TileProgram) : Type 0 where
  pub code : length tile.code < 2 ^ 32
  pub switch : length tile.switch < 2 ^ 32
  pub cells : length tile.cells < 2 ^ 32
  pub misses : length tile.misses < 2 ^ 32

-- what was answered is this set, unless memory ran out
abbrev pub IsAnswer : Result ProgramSet ImageRefusal → ProgramSet → Type 0
IsAnswer (Ok found) set = found ≡ set
IsAnswer (Err (At offset kind)) set = ⊥
IsAnswer (Err Memory) set = Unit {0}

-- a refusal is the first fault, or want of memory
abbrev pub IsRefusal : List ℕ → ImageRefusal → Type 0
IsRefusal bytes (At offset kind) = ImageFault bytes offset kind
IsRefusal bytes Memory = Unit {0}

-- what was answered is this fault, unless memory ran out
abbrev pub IsRefused : Result ProgramSet ImageRefusal → ℕ → ImageKind → Type 0
IsRefused (Ok set) offset kind = ⊥
IsRefused (Err (At place told)) offset kind = (place ≡ offset) × (told ≡ kind)
IsRefused (Err Memory) offset kind = Unit {0}

-- the bytes are the image of exactly one set, and have no fault
pub record IsOneImage (bytes : List ℕ) (set : ProgramSet) : Type 0 where
  pub image : Image bytes set
  pub only : (other : ProgramSet) → Image bytes other → other ≡ set
  pub no_fault : (offset : ℕ) (kind : ImageKind) → ImageFault bytes offset kind → ⊥

-- the bytes have exactly one first fault, and are no image
pub record IsOneFault (bytes : List ℕ) (offset : ℕ) (kind : ImageKind) : Type 0 where
  pub fault : ImageFault bytes offset kind
  pub one_place : (other : ℕ) (told : ImageKind) → ImageFault bytes other told → other ≡ offset
  pub one_kind : (other : ℕ) (told : ImageKind) → ImageFault bytes other told → told ≡ kind
  pub no_image : (set : ProgramSet) → Image bytes set → ⊥

abbrev pub HasOneAnswer : List ℕ → Type 0
HasOneAnswer bytes = ((set : ProgramSet) × IsOneImage bytes set) ⊎ ((offset : ℕ) × ((kind : ImageKind) × IsOneFault bytes offset kind))
