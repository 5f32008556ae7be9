-- A machine that has done nothing yet.
use Rattle.std.specs.Prelude.{◌≡◌, ℕ, ◌<◌, ◌≤◌, List, [], length, replicate, slice_get, slice_index_or, Some}
use Rattle.raw_grid.specs.Topology.{Topology, tile_count, proc_count}
use Rattle.raw_model.specs.Program.{ProgramSet, TileProgram, PortProgram}
use Rattle.raw_model.specs.Start.{start, first_tile, first_switch}
use Rattle.raw_model.specs.Cache.{StandsFor}
use Rattle.raw_processor.specs.declared.end_wires.EndWires.{EndWires}
use Rattle.raw_processor.specs.declared.processor.Processor.{Processor}
use Rattle.raw_processor.specs.declared.processor.TileUnit.{TileUnit}
use Rattle.raw_processor.specs.declared.processor.SwitchUnit.{SwitchUnit}
use Rattle.raw_processor.specs.Ends.{AreEndsOf}
use Rattle.raw_processor.specs.Port.{Port}
use Rattle.raw_processor.specs.Processor.{local_of, cache_of, misses_of, owed_of, IsKept}
use Rattle.raw_serial.specs.Running.{Running}

-- a machine of this set at its start, with empty caches: no tile has missed, and none owes a turn
pub record IsFresh (of : ProgramSet) (m : Running) : Type 0 where
  pub set : m.set ≡ of
  pub state : m.state ≡ start of
  pub caches : (t : ℕ) → t < tile_count of.topo → StandsFor (slice_index_or m.caches t []) []
  pub missed : m.missed ≡ replicate (proc_count of.topo) 0
  pub owed : m.owed ≡ replicate (proc_count of.topo) 0

-- a tile of this program that has done nothing yet
pub record IsFirstTile (program : TileProgram) (tile : TileUnit) : Type 0 where
  pub code : tile.code.items ≡ program.code
  pub state : tile.state ≡ first_tile program
  pub cache : StandsFor tile.cache []
  pub misses : tile.misses ≡ 0
  pub owed : tile.owed ≡ 0

-- a switch of this program that has done nothing yet
pub record IsFirstSwitch (program : TileProgram) (switch : SwitchUnit) : Type 0 where
  pub code : switch.code.items ≡ program.switch
  pub state : switch.state ≡ first_switch program.switch

-- a port that has done nothing yet, with room for what a port of this program may hold
pub record IsFirstPort (program : PortProgram) (port : Port) : Type 0 where
  pub local : port.local ≡ record { done = 0; got = [] }
  pub room : program.capacity ≤ port.room

-- processor p of a set before it has done anything
pub record IsFirst (set : ProgramSet) (p : ℕ) (x : Processor) : Type 0 where
  pub kept : IsKept set p x
  pub local : slice_get (start set).locals p ≡ Some (local_of x)
  pub cache : p < tile_count set.topo → StandsFor (cache_of x) []
  pub misses : misses_of x ≡ 0
  pub owed : owed_of x ≡ 0

-- each processor of a set before it has done anything
pub record AreFirst (set : ProgramSet) (processors : List Processor) : Type 0 where
  pub each : length processors ≡ proc_count set.topo
  pub first : (p : ℕ) (x : Processor) → slice_get processors p ≡ Some x → IsFirst set p x

-- the wires at the ends of each processor
pub record AreAllEnds (topo : Topology) (ends : List EndWires) : Type 0 where
  pub each_end : length ends ≡ proc_count topo
  pub ends_are : (p : ℕ) (e : EndWires) → slice_get ends p ≡ Some e → AreEndsOf topo p e

-- a port that has done nothing yet, with the room of this one
abbrev pub emptied : Port → Port
emptied port = record { local = record { done = 0; got = [] }; room = port.room }
