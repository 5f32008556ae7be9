-- The processors of a machine with terms, and what each keeps.
use Rattle.std.specs.Prelude.{◌≡◌, ℕ, ◌+◌, ◌^◌, ◌<◌, ◌≤◌, List, length, map, slice_get, slice_index, Some}
use Rattle.raw_grid.specs.declared.parts.ProcKind.TheVariants as proc
use Rattle.raw_grid.specs.Topology.{tile_count, proc_count, kind_at}
use Rattle.raw_grid.specs.Wires.{wires_of}
use Rattle.raw_model.specs.declared.marks.Mark.TheVariants.{Going}
use Rattle.raw_model.specs.declared.limits.TheConstants.{MEMORY_WORDS}
use Rattle.raw_model.specs.Program.{ProgramSet}
use Rattle.raw_model.specs.Local.{Local, Tile, Switch, Source, Sink}
use Rattle.raw_model.specs.Machine.{tile_code, switch_code, port_program, words_of, capacity_of}
use Rattle.raw_processor.specs.declared.end_wires.EndWires.{EndWires}
use Rattle.raw_processor.specs.declared.processor.SwitchUnit.{SwitchUnit}
use Rattle.raw_processor.specs.Ends.{AreEndsOf}
use Rattle.raw_processor.specs.Port.{Port}
use Rattle.raw_term.specs.TermMachine.{TermState, numbered}
use Rattle.raw_prove.specs.declared.machine.Machine.{Machine}
use Rattle.raw_prove.specs.declared.unit.Unit.{Unit}
use Rattle.raw_prove.specs.declared.unit.Unit.TheVariants as a
use Rattle.raw_prove.specs.declared.unit.TileUnit.{TileUnit}
use Rattle.raw_prove.specs.declared.unit.SourceUnit.{SourceUnit}

-- the local state of a processor
abbrev pub local_of : Unit → Local
local_of (a.Tile unit) = Tile unit.tile
local_of (a.Switch unit) = Switch unit.state
local_of (a.Source unit) = Source unit.port.local
local_of (a.Sink port) = Sink port.local

-- a tile with its program and its whole memory, which goes on only inside its program
pub record IsTile (set : ProgramSet) (p : ℕ) (unit : TileUnit) : Type 0 where
  pub place : p < tile_count set.topo
  pub code : unit.code.items ≡ tile_code set p
  pub inside : unit.tile.mark ≡ Going → unit.tile.pc < length (tile_code set p)
  pub memory : length unit.tile.memory ≡ MEMORY_WORDS

-- a switch with its program, which goes on only inside it
pub record IsSwitch (set : ProgramSet) (p : ℕ) (unit : SwitchUnit) : Type 0 where
  pub kind : kind_at set.topo p ≡ Some proc.Switch
  pub code : unit.code.items ≡ switch_code set p
  pub inside : unit.state.mark ≡ Going → unit.state.pc < length (switch_code set p)

-- a source, whose words have numbers that follow one another
pub record IsSource (set : ProgramSet) (p : ℕ) (unit : SourceUnit) : Type 0 where
  pub kind : kind_at set.topo p ≡ Some proc.Source
  pub many : length (words_of (port_program (numbered set) p)) ≡ length (words_of (port_program set p))
  pub words : (k : ℕ) → k < length (words_of (port_program set p)) → slice_index (words_of (port_program (numbered set) p)) k ≡ unit.first + k
  pub few : unit.first + length (words_of (port_program set p)) < 2 ^ 32

-- a sink, which holds as many words as it has taken, and has room up to its capacity
pub record IsSink (set : ProgramSet) (p : ℕ) (port : Port) : Type 0 where
  pub kind : kind_at set.topo p ≡ Some proc.Sink
  pub got : length port.local.got ≡ port.local.done
  pub room : capacity_of (port_program set p) ≤ port.room

-- what each processor keeps
abbrev pub IsUnit : ProgramSet → ℕ → Unit → Type 0
IsUnit set p (a.Tile unit) = IsTile set p unit
IsUnit set p (a.Switch unit) = IsSwitch set p unit
IsUnit set p (a.Source unit) = IsSource set p unit
IsUnit set p (a.Sink port) = IsSink set p port

-- these are processors of the set, from the first on
abbrev pub AreUnits : ProgramSet → List Unit → Type 0
AreUnits set units = (p : ℕ) (x : Unit) → slice_get units p ≡ Some x → IsUnit set p x

-- the state that a machine stands for
abbrev pub state_of : Machine → TermState
state_of m = record { nodes = m.table; state = record { locals = map local_of m.units.items; wires = m.wires } }

-- what each machine keeps: there is a processor for each of the grid, and the wires at their ends are those of the grid
pub record MachineStands (set : ProgramSet) (m : Machine) : Type 0 where
  pub each : length m.units.items ≡ proc_count set.topo
  pub units : AreUnits set m.units.items
  pub each_end : length m.ends.items ≡ proc_count set.topo
  pub ends : (p : ℕ) (e : EndWires) → slice_get m.ends.items p ≡ Some e → AreEndsOf set.topo p e
  pub wires : length m.wires ≡ length (wires_of set.topo)
