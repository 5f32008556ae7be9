-- How a machine is kept in memory.
use Rattle.std.specs.Prelude.{◌≡◌, ℕ, List, map, length, slice_get, Some}
use Rattle.raw_grid.specs.declared.parts.PortKind.{PortKind}
use Rattle.raw_grid.specs.declared.parts.PortKind.TheVariants as kind
use Rattle.raw_grid.specs.Topology.{proc_count}
use Rattle.raw_model.specs.Program.{ProgramSet, IsSet}
use Rattle.raw_model.specs.Local.{Local, Source, Sink, PortLocal}
use Rattle.raw_model.specs.Start.{MachineState, Fits}
use Rattle.raw_processor.specs.declared.end_wires.EndWires.{EndWires}
use Rattle.raw_processor.specs.declared.processor.Processor.{Processor}
use Rattle.raw_processor.specs.Ends.{AreEndsOf}
use Rattle.raw_processor.specs.Processor.{local_of, cache_of, misses_of, owed_of, IsKept, HasFewMisses}
use Rattle.raw_serial.specs.Running.{Running, IsReached}

-- a port of this kind
abbrev pub port_local : PortKind → PortLocal → Local
port_local kind.Source l = Source l
port_local kind.Sink l = Sink l

-- the state that these processors and wires stand for
abbrev pub state_of : List Processor → List (List ℕ) → MachineState
state_of processors wires = record { locals = map local_of processors; wires = wires }

-- the machine that they stand for
abbrev pub running_of : ProgramSet → List Processor → List (List ℕ) → Running
running_of set processors wires =
    record {
      set = set;
      state = state_of processors wires;
      caches = map cache_of processors;
      missed = map misses_of processors;
      owed = map owed_of processors;
    }

-- what is so of the parts of each machine: there is one for each processor, its wires are at its ends, and it keeps what no
-- step changes; the state is reached, and so fits, and no tile missed more often than it stepped
pub record AreParts (set : ProgramSet) (ends : List EndWires) (processors : List Processor) (wires : List (List ℕ)) : Type 0 where
  pub valid : IsSet set
  pub each_end : length ends ≡ proc_count set.topo
  pub each : length processors ≡ proc_count set.topo
  pub ends_are : (p : ℕ) (e : EndWires) → slice_get ends p ≡ Some e → AreEndsOf set.topo p e
  pub kept : (p : ℕ) (x : Processor) → slice_get processors p ≡ Some x → IsKept set p x
  pub few : (p : ℕ) (x : Processor) → slice_get processors p ≡ Some x → HasFewMisses x
  pub fits : Fits set (state_of processors wires)
  pub reached : IsReached (running_of set processors wires)
