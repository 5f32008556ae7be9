-- A processor of a machine: its local state, and what stands beside that.
use Rattle.std.specs.Prelude.{◌≡◌, ℕ, ◌≤◌, List, [], length}
use Rattle.raw_model.specs.declared.marks.Mark.{Mark}
use Rattle.raw_model.specs.declared.marks.Mark.TheVariants as mark
use Rattle.raw_model.specs.Program.{ProgramSet}
use Rattle.raw_model.specs.Local.{Local, Tile, Switch, Source, Sink}
use Rattle.raw_model.specs.Machine.{tile_code, switch_code, port_program, capacity_of}
use Rattle.raw_model.specs.Cache.{HeldLines}
use Rattle.raw_processor.specs.declared.processor.Processor.{Processor}
use Rattle.raw_processor.specs.declared.processor.Processor.TheVariants as a

-- the local state of a processor
abbrev pub local_of : Processor → Local
local_of (a.Tile tile) = Tile tile.state
local_of (a.Switch switch) = Switch switch.state
local_of (a.Source port) = Source port.local
local_of (a.Sink port) = Sink port.local

-- what its cache holds: only a tile has one
abbrev pub cache_of : Processor → List HeldLines
cache_of (a.Tile tile) = tile.cache
cache_of _ = []

-- how often it missed
abbrev pub misses_of : Processor → ℕ
misses_of (a.Tile tile) = tile.misses
misses_of _ = 0

-- how many stall turns it owes
abbrev pub owed_of : Processor → ℕ
owed_of (a.Tile tile) = tile.owed
owed_of _ = 0

-- what no step changes: a tile or a switch has its program, and a sink has room up to its capacity
abbrev pub IsKept : ProgramSet → ℕ → Processor → Type 0
IsKept set p (a.Tile tile) = tile.code.items ≡ tile_code set p
IsKept set p (a.Switch switch) = switch.code.items ≡ switch_code set p
IsKept set p (a.Source port) = Unit {0}
IsKept set p (a.Sink port) = capacity_of (port_program set p) ≤ port.room

-- a tile did not miss more often than it stepped
abbrev pub HasFewMisses : Processor → Type 0
HasFewMisses (a.Tile tile) = tile.misses ≤ tile.state.count
HasFewMisses _ = Unit {0}

-- the mark of the processor with this local state; a port has that of one that goes on
abbrev pub local_mark : Local → Mark
local_mark (Tile l) = l.mark
local_mark (Switch l) = l.mark
local_mark (Source l) = mark.Going
local_mark (Sink l) = mark.Going

-- a processor can be made as the other: they are of one kind, and a port has room for the words of the other
abbrev pub CanBe : Processor → Processor → Type 0
CanBe (a.Tile old) (a.Tile other) = Unit {0}
CanBe (a.Switch old) (a.Switch other) = Unit {0}
CanBe (a.Source old) (a.Source other) = length other.local.got ≤ old.room
CanBe (a.Sink old) (a.Sink other) = length other.local.got ≤ old.room
CanBe old other = ⊥

-- a processor was made as the other: what stands for the machine's state is that of the other, and what no step changes
-- is so of it where it was so before
pub record IsCopy (old other new : Processor) : Type 0 where
  pub local : local_of new ≡ local_of other
  pub cache : cache_of new ≡ cache_of other
  pub misses : misses_of new ≡ misses_of other
  pub owed : owed_of new ≡ owed_of other
  pub kept : (set : ProgramSet) (p : ℕ) → IsKept set p old → IsKept set p new
