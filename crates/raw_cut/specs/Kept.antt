-- What a machine with terms keeps that runs a set in which numbers of terms stand as the words of sources.
use Rattle.std.specs.Prelude.{◌≡◌, ℕ, ◌+◌, ◌≤◌, true, false, Some, List, length, slice_get}
use Rattle.raw_grid.specs.declared.parts.ProcKind.TheVariants as proc
use Rattle.raw_grid.specs.Topology.{proc_count, kind_at}
use Rattle.raw_grid.specs.Wires.{wires_of}
use Rattle.raw_model.specs.Program.{ProgramSet, IsSet}
use Rattle.raw_model.specs.Machine.{port_program, capacity_of}
use Rattle.raw_model.specs.Rest.{enabled}
use Rattle.raw_processor.specs.declared.end_wires.EndWires.{EndWires}
use Rattle.raw_processor.specs.Ends.{AreEndsOf}
use Rattle.raw_processor.specs.Port.{Port}
use Rattle.raw_term.specs.TermMachine.{term_step}
use Rattle.raw_prove.specs.declared.machine.Machine.{Machine}
use Rattle.raw_prove.specs.declared.turn.Turn.{Turn}
use Rattle.raw_prove.specs.declared.turn.Turn.TheVariants.{Idle, Fired, Hangs, TooMany}
use Rattle.raw_prove.specs.declared.unit.Unit.{Unit}
use Rattle.raw_prove.specs.declared.unit.Unit.TheVariants as a
use Rattle.raw_prove.specs.Units.{IsTile, IsSwitch, state_of}

-- a sink, which holds as many words as it has taken, and has room for so many more than its capacity
pub record IsSinkWith (set : ProgramSet) (spare p : ℕ) (port : Port) : Type 0 where
  pub kind : kind_at set.topo p ≡ Some proc.Sink
  pub got : length port.local.got ≡ port.local.done
  pub room : capacity_of (port_program set p) + spare ≤ port.room

-- what each processor keeps
abbrev pub IsUnitWith : ProgramSet → ℕ → ℕ → Unit → Type 0
IsUnitWith set spare p (a.Tile unit) = IsTile set p unit
IsUnitWith set spare p (a.Switch unit) = IsSwitch set p unit
IsUnitWith set spare p (a.Source unit) = kind_at set.topo p ≡ Some proc.Source
IsUnitWith set spare p (a.Sink port) = IsSinkWith set spare p port

abbrev pub AreUnitsWith : ProgramSet → ℕ → List Unit → Type 0
AreUnitsWith set spare units = (p : ℕ) (x : Unit) → slice_get units p ≡ Some x → IsUnitWith set spare p x

-- what each machine keeps, of a set that keeps the rules
pub record IsKeptWith (set : ProgramSet) (spare : ℕ) (m : Machine) : Type 0 where
  pub valid : IsSet set
  pub each : length m.units.items ≡ proc_count set.topo
  pub units : AreUnitsWith set spare m.units.items
  pub each_end : length m.ends.items ≡ proc_count set.topo
  pub ends : (p : ℕ) (e : EndWires) → slice_get m.ends.items p ≡ Some e → AreEndsOf set.topo p e
  pub wires : length m.wires ≡ length (wires_of set.topo)

-- what a machine with terms keeps of its set
abbrev pub IsKept : ProgramSet → Machine → Type 0
IsKept set m = IsKeptWith set 0 m

-- a turn of processor p
pub record StaysIdle (set : ProgramSet) (p : ℕ) (old new : Machine) : Type 0 where
  pub waits : enabled set (state_of old).state p ≡ false
  pub stays : state_of new ≡ state_of old
  pub kept : (spare : ℕ) → IsKeptWith set spare old → IsKeptWith set spare new

pub record TakesStep (set : ProgramSet) (p : ℕ) (old new : Machine) : Type 0 where
  pub may : enabled set (state_of old).state p ≡ true
  pub does : term_step set (state_of old) p ≡ Some (state_of new)
  pub kept : (spare : ℕ) → IsKeptWith set spare old → IsKeptWith set spare new

abbrev pub IsTurnAt : ProgramSet → ℕ → Machine → Turn → Machine → Type 0
IsTurnAt set p old Idle new = StaysIdle set p old new
IsTurnAt set p old Fired new = TakesStep set p old new
IsTurnAt set p old Hangs new = Prim.Unit {0}
IsTurnAt set p old TooMany new = Prim.Unit {0}
