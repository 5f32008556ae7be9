-- A machine taken apart.
use Rattle.std.specs.Prelude.{◌≡◌, ℕ, length, map, slice_get, Some}
use Rattle.raw_grid.specs.Topology.{proc_count}
use Rattle.raw_model.specs.Program.{ProgramSet}
use Rattle.raw_processor.specs.declared.processor.Processor.{Processor}
use Rattle.raw_processor.specs.Processor.{IsKept}
use Rattle.raw_serial.specs.declared.parts.Parts.{Parts}
use Rattle.raw_serial.specs.Running.{Running, IsReached}
use Rattle.raw_serial.specs.Parts.{running_of}
use Rattle.raw_serial.specs.Fresh.{AreAllEnds}

-- the machine that these parts stand for
abbrev pub made_of : ProgramSet → Parts → Running
made_of set parts = running_of set parts.processors.items (map (λ queue. queue.items) parts.wires.items)

-- this is the machine that these parts stand for
abbrev pub IsMadeOf : Running → Parts → Type 0
IsMadeOf m parts = m ≡ made_of m.set parts

-- a machine of this set can be made of these parts: there is one for each processor, the wires at the ends are
-- those of the grid, each processor keeps what no step changes, and a lawful list of steps leads from the start to what they stand for
pub record IsWhole (set : ProgramSet) (parts : Parts) : Type 0 where
  pub ends : AreAllEnds set.topo parts.ends.items
  pub each : length parts.processors.items ≡ proc_count set.topo
  pub kept : (p : ℕ) (x : Processor) → slice_get parts.processors.items p ≡ Some x → IsKept set p x
  pub reached : IsReached (made_of set parts)
