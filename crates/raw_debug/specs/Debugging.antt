-- What commands ask for.
use Rattle.std.specs.Prelude.{◌≡◌, ℕ, ◌+◌, ◌*◌, ◌<◌, ◌≤◌, Bool, true, false, length}
use Rattle.raw_grid.specs.Topology.{tile_count, proc_count}
use Rattle.raw_grid.specs.Wires.{wires_of, producer_of}
use Rattle.raw_model.specs.Program.{ProgramSet, memory_size}
use Rattle.raw_model.specs.Serial.{serial}
use Rattle.raw_debug.specs.declared.command.Aim.{Aim}
use Rattle.raw_debug.specs.declared.command.Aim.TheVariants.{Pc, Sends, SendsAny, Stores, StoresAny, Sets, SetsAny}
use Rattle.raw_debug.specs.declared.command.Command.{Command}
use Rattle.raw_debug.specs.declared.command.Command.TheVariants.{At, Count, Until, Last, Rest, Memory, Passed}
use Rattle.raw_debug.specs.declared.command.Reading.{Reading}
use Rattle.raw_debug.specs.declared.command.Reading.TheVariants.{Says}
use Rattle.raw_debug.specs.declared.walk.Walk.{Walk}
use Rattle.raw_debug.specs.Walking.{IsUnderWay}

-- what is aimed at can be asked of processor p: a wire that comes from it, a word of a tile's memory
abbrev pub IsPossibleAim : ProgramSet → ℕ → Aim → Type 0
IsPossibleAim set p (Pc pc) = Unit {0}
IsPossibleAim set p (Sends wire value) = (wire.0 < length (wires_of set.topo)) × (p ≡ producer_of set.topo wire.0)
IsPossibleAim set p (SendsAny wire) = (wire.0 < length (wires_of set.topo)) × (p ≡ producer_of set.topo wire.0)
IsPossibleAim set p (Stores address word) = (p < tile_count set.topo) × (address + 4 ≤ memory_size)
IsPossibleAim set p (StoresAny address) = (p < tile_count set.topo) × (address + 4 ≤ memory_size)
IsPossibleAim set p (Sets register value) = Unit {0}
IsPossibleAim set p (SetsAny register) = Unit {0}

-- a processor of the set is asked that
pub record CanAim (set : ProgramSet) (p : ℕ) (aim : Aim) : Type 0 where
  pub there : p < proc_count set.topo
  pub possible : IsPossibleAim set p aim

-- a look for that, by a machine somewhere in the serial order of its set
pub record MaySeek (walk : Walk) (p : ℕ) (aim : Aim) : Type 0 where
  pub under_way : IsUnderWay walk
  pub can : CanAim walk.machine.set p aim

-- a look back for that, from a moment of the set
pub record MayLookBack (set : ProgramSet) (p : ℕ) (aim : Aim) (moment : ℕ) : Type 0 where
  pub can : CanAim set p aim
  pub within : moment ≤ length (serial set)

-- what a command asks for, where p is the current processor: a processor that is there, words of a tile's memory, a wire
abbrev pub IsPossible : ProgramSet → ℕ → Command → Type 0
IsPossible set p (At q steps) = q.0 < proc_count set.topo
IsPossible set p (Count q steps) = q.0 < proc_count set.topo
IsPossible set p (Until q aim) = (q.0 < proc_count set.topo) × IsPossibleAim set q.0 aim
IsPossible set p (Last q aim) = (q.0 < proc_count set.topo) × IsPossibleAim set q.0 aim
IsPossible set p (Memory address words) = (p < tile_count set.topo) × (address + 4 * words ≤ memory_size)
IsPossible set p (Passed wire) = wire.0 < length (wires_of set.topo)
IsPossible set p _ = Unit {0}

-- what a command writes is seen of the state where the script stands, whatever that is
abbrev pub shows_here : Command → Bool
shows_here (Passed wire) = false
shows_here Rest = false
shows_here _ = true

-- a command led to this moment: that of rest is where the serial order ends
abbrev pub IsLed : ProgramSet → ℕ → Command → Type 0
IsLed set moment Rest = moment ≡ length (serial set)
IsLed set moment _ = Unit {0}

-- what a line asks for
abbrev pub IsPossibleReading : ProgramSet → ℕ → Reading → Type 0
IsPossibleReading set p (Says command) = IsPossible set p command
IsPossibleReading set p _ = Unit {0}
