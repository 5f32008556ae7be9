-- One processor's turn: its answer, and what becomes of its local state and of the wires.
use Rattle.std.specs.Prelude.{◌≡◌, ℕ, Bool, true, false, Option, Some, None, List}
use Rattle.raw_network.specs.Network.{taken, appended, row_at}
use Rattle.raw_network.specs.Waits.{wait_of}
use Rattle.raw_model.specs.Program.{ProgramSet}
use Rattle.raw_model.specs.Local.{Local}
use Rattle.raw_model.specs.Machine.{machine_of, takes, is_stopped}
use Rattle.raw_model.specs.Waits.{inputs_at, outputs_at}
use Rattle.raw_serial.specs.declared.turn.Turn.{Turn}
use Rattle.raw_serial.specs.declared.turn.Turn.TheVariants.{Fired, Stalled, Stopped, Waits}

-- what a turn comes to, of a processor that is stopped or not, owes stall turns or not, and waits for this wire first
abbrev pub turn_by : Bool → Bool → Option ℕ → Turn
turn_by true owes wait = Stopped
turn_by false true wait = Stalled
turn_by false false None = Fired
turn_by false false (Some w) = Waits (record { 0 = w })

-- what a turn of processor p comes to, where this is its local state
abbrev pub turn_at : ProgramSet → ℕ → Bool → Local → List (List ℕ) → Turn
turn_at set p owes l wires =
    turn_by (is_stopped set p l) owes (wait_of (machine_of set) (inputs_at set.topo) (outputs_at set.topo) wires p (Some l))

-- a processor's local state after its turn
abbrev pub local_after : Turn → ProgramSet → ℕ → Local → List (List ℕ) → Local
local_after Fired set p l wires = (row_at (machine_of set) p l wires).next
local_after _ set p l wires = l

-- the wires after a turn
abbrev pub wires_after : Turn → ProgramSet → ℕ → Local → List (List ℕ) → List (List ℕ)
wires_after Fired set p l wires = appended (row_at (machine_of set) p l wires).sent (taken (takes set p l) wires)
wires_after _ set p l wires = wires

-- a turn of processor p, which owes stall turns or not: what it comes to, and from which local state and
-- wires it leads to which
pub record IsTurn (set : ProgramSet) (p : ℕ) (owes : Bool) (turn : Turn) (old new : Local) (before after : List (List ℕ)) : Type 0 where
  pub answer : turn ≡ turn_at set p owes old before
  pub local : new ≡ local_after turn set p old before
  pub wires : after ≡ wires_after turn set p old before
