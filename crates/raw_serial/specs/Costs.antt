-- What a turn of each kind of processor changes; of a tile also what it costs: its touch, its misses, and the stall turns that it owes.
use Rattle.std.specs.Prelude.{◌≡◌, ℕ, ◌+◌, ◌-◌, ◌≤◌, nat_lt, false, List, ◌++◌}
use Rattle.std.specs.Option.{option_to_list}
use Rattle.raw_network.specs.Network.{row_at}
use Rattle.raw_model.specs.Program.{ProgramSet}
use Rattle.raw_model.specs.Local.{Tile, Switch, Source, Sink}
use Rattle.raw_model.specs.Machine.{machine_of}
use Rattle.raw_model.specs.Cache.{StandsFor, misses, stream_of}
use Rattle.raw_processor.specs.declared.processor.Processor.{Processor}
use Rattle.raw_processor.specs.declared.processor.Processor.TheVariants as a
use Rattle.raw_processor.specs.declared.processor.TileUnit.{TileUnit}
use Rattle.raw_processor.specs.declared.processor.SwitchUnit.{SwitchUnit}
use Rattle.raw_processor.specs.Port.{Port}
use Rattle.raw_serial.specs.declared.turn.Turn.{Turn}
use Rattle.raw_serial.specs.declared.turn.Turn.TheVariants.{Fired, Stalled, Stopped, Waits}
use Rattle.raw_serial.specs.Turns.{IsTurn}
use Rattle.raw_processor.specs.Touching.{owed_after}

-- the address that the next step of tile p touches, as a list
abbrev pub touches_next : ProgramSet → ℕ → TileUnit → List (List ℕ) → List ℕ
touches_next set p tile wires = option_to_list (row_at (machine_of set) p (Tile tile.state) wires).touched

-- what a step costs: the cache takes the touch, a miss is counted, and its stall turns are owed; the program stays
pub record IsCost (set : ProgramSet) (p : ℕ) (old new : TileUnit) (touched : List ℕ) : Type 0 where
  pub stands : (earlier : List ℕ) → StandsFor old.cache earlier → StandsFor new.cache (earlier ++ touched)
  pub missed : (earlier : List ℕ) → StandsFor old.cache earlier → misses (earlier ++ touched) + old.misses ≡ misses earlier + new.misses
  pub owed : new.owed ≡ owed_after (stream_of set p) old.misses new.misses
  pub few : new.misses ≤ old.misses + 1
  pub code : new.code ≡ old.code

-- what a turn costs
abbrev pub IsCostOf : Turn → ProgramSet → ℕ → TileUnit → TileUnit → List (List ℕ) → Type 0
IsCostOf Fired set p old new wires = IsCost set p old new (touches_next set p old wires)
IsCostOf Stalled set p old new wires = new ≡ record old { owed = old.owed - 1 }
IsCostOf Stopped set p old new wires = new ≡ old
IsCostOf (Waits wire) set p old new wires = new ≡ old

-- a turn of tile p
pub record IsTileTurn (set : ProgramSet) (p : ℕ) (turn : Turn) (old new : TileUnit) (wires later : List (List ℕ)) : Type 0 where
  pub whole : IsTurn set p (nat_lt 0 old.owed) turn (Tile old.state) (Tile new.state) wires later
  pub cost : IsCostOf turn set p old new wires

-- a turn of switch p
pub record IsSwitchTurn (set : ProgramSet) (p : ℕ) (turn : Turn) (old new : SwitchUnit) (wires later : List (List ℕ)) : Type 0 where
  pub whole : IsTurn set p false turn (Switch old.state) (Switch new.state) wires later
  pub code : new.code ≡ old.code

-- a turn of source p
pub record IsSourceTurn (set : ProgramSet) (p : ℕ) (turn : Turn) (old new : Port) (wires later : List (List ℕ)) : Type 0 where
  pub whole : IsTurn set p false turn (Source old.local) (Source new.local) wires later
  pub room : new.room ≡ old.room

-- a turn of sink p
pub record IsSinkTurn (set : ProgramSet) (p : ℕ) (turn : Turn) (old new : Port) (wires later : List (List ℕ)) : Type 0 where
  pub whole : IsTurn set p false turn (Sink old.local) (Sink new.local) wires later
  pub room : new.room ≡ old.room

-- a turn of processor p, which stays of its kind
abbrev pub IsProcessorTurn : ProgramSet → ℕ → Turn → Processor → Processor → List (List ℕ) → List (List ℕ) → Type 0
IsProcessorTurn set p turn (a.Tile old) (a.Tile new) wires later = IsTileTurn set p turn old new wires later
IsProcessorTurn set p turn (a.Switch old) (a.Switch new) wires later = IsSwitchTurn set p turn old new wires later
IsProcessorTurn set p turn (a.Source old) (a.Source new) wires later = IsSourceTurn set p turn old new wires later
IsProcessorTurn set p turn (a.Sink old) (a.Sink new) wires later = IsSinkTurn set p turn old new wires later
IsProcessorTurn set p turn _ _ wires later = ⊥
