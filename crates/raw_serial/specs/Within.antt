-- Steps of one processor in a row that touch no wire.
use Rattle.std.specs.Prelude.{◌≡◌, ℕ, ◌<◌, List, [], Option, Some, replicate, slice_get, slice_set}
use Rattle.std.specs.Option.{unwrap_or}
use Rattle.raw_model.specs.Program.{ProgramSet}
use Rattle.raw_model.specs.Local.{Local, Tile, Switch}
use Rattle.raw_model.specs.Machine.{takes, sends}
use Rattle.raw_model.specs.Start.{MachineState}
use Rattle.raw_model.specs.Rest.{end_from}
use Rattle.raw_processor.specs.declared.end_wires.EndWires.{EndWires}
use Rattle.raw_processor.specs.declared.processor.Processor.{Processor}
use Rattle.raw_serial.specs.Running.{Running}
use Rattle.raw_serial.specs.Parts.{running_of, AreParts}
use Rattle.raw_serial.specs.Leading.{HasTaken}

-- what a register of a tile or a switch with this local state holds, and 0 where there is none with this number
abbrev pub register_in : ℕ → Option Local → ℕ
register_in register (Some (Tile l)) = unwrap_or (slice_get l.regs register) 0
register_in register (Some (Switch l)) = unwrap_or (slice_get l.regs register) 0
register_in register _ = 0

-- the next step of a processor with this local state takes nothing from a wire, and sends nothing
pub record NamesNone (set : ProgramSet) (p : ℕ) (l : Local) : Type 0 where
  pub takes : takes set p l ≡ []
  pub sends : sends set p l ≡ []

-- that of processor p of this state does
abbrev pub IsWithin : ProgramSet → MachineState → ℕ → Type 0
IsWithin set s p = (l : Local) → slice_get s.locals p ≡ Some l → NamesNone set p l

-- the state after so many steps of processor p
abbrev pub state_behind : Running → ℕ → ℕ → MachineState
state_behind m p steps = end_from m.set m.state (replicate steps p)

-- The one machine has taken so many steps of processor p in a row and is now the other: each of them took nothing from a wire and
-- sent nothing, and before each the register held what it held at first.
pub record HasRunWithin (old new : Running) (p register steps : ℕ) : Type 0 where
  pub taken : HasTaken old new (replicate steps p)
  pub within : (n : ℕ) → n < steps → IsWithin old.set (state_behind old p n) p
  pub held : (n : ℕ) → n < steps →
      register_in register (slice_get (state_behind old p n).locals p) ≡ register_in register (slice_get old.state.locals p)

-- whichever machine it is of, that machine runs so where processor p and the wires become these
abbrev pub RunsWithin : ProgramSet → ℕ → Processor → Processor → List (List ℕ) → List (List ℕ) → ℕ → ℕ → Type 0
RunsWithin set p old new wires later register steps =
    (ends : List EndWires) (processors : List Processor) → AreParts set ends processors wires → slice_get processors p ≡ Some old
    → AreParts set ends (slice_set processors p new) later
    × HasRunWithin (running_of set processors wires) (running_of set (slice_set processors p new) later) p register steps
