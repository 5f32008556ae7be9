-- Lists of steps of a machine, when it rests, and which of its processors are trapped or at the limit.
use Rattle.std.specs.Prelude.{ℕ, Bool, true, false, ◌&&◌, not, ◌==◌, Option, Some, None, List, slice_get}
use Rattle.raw_network.specs.Network.{Event, is_enabled}
use Rattle.raw_network.specs.Network.{step as network_step}
use Rattle.raw_network.specs.Runs.{IsLawful as IsLawfulList, end_of, events, kth, passed, IsQuiet as IsQuietState}
use Rattle.raw_model.specs.declared.marks.Mark.{Mark}
use Rattle.raw_model.specs.declared.marks.Mark.TheVariants as mark
use Rattle.raw_model.specs.Program.{ProgramSet}
use Rattle.raw_model.specs.Local.{Local, Tile, Switch}
use Rattle.raw_model.specs.Machine.{machine_of, is_stopped, is_ended}
use Rattle.raw_model.specs.Start.{MachineState, start}

-- a processor takes no more steps; one that is not there takes none
abbrev pub is_stopped_at : ProgramSet → ℕ → Option Local → Bool
is_stopped_at set p None = false
is_stopped_at set p (Some l) = is_stopped set p l

-- processor p of a state takes no more steps
abbrev pub stopped : ProgramSet → MachineState → ℕ → Bool
stopped set s p = is_stopped_at set p (slice_get s.locals p)

-- processor p may take its next step
abbrev pub enabled : ProgramSet → MachineState → ℕ → Bool
enabled set s p = is_enabled (machine_of set) s p

-- the state after a step of processor p, which is enabled
abbrev pub step : ProgramSet → MachineState → ℕ → MachineState
step set s p = network_step (machine_of set) s p

-- each step of the list is enabled when its turn comes, from this state
abbrev pub IsLawfulFrom : ProgramSet → MachineState → List ℕ → Type 0
IsLawfulFrom set s steps = IsLawfulList (machine_of set) s steps

-- each step of the list is enabled when its turn comes, from the start
abbrev pub IsLawful : ProgramSet → List ℕ → Type 0
IsLawful set steps = IsLawfulFrom set (start set) steps

-- the state after the steps, from this state
abbrev pub end_from : ProgramSet → MachineState → List ℕ → MachineState
end_from set s steps = end_of (machine_of set) s steps

-- the state after the steps, from the start
abbrev pub end : ProgramSet → List ℕ → MachineState
end set steps = end_from set (start set) steps

-- what step i of the list took, sent and touched
abbrev pub event : ProgramSet → MachineState → List ℕ → ℕ → Option (Event Local)
event set s steps i = slice_get (events (machine_of set) s steps) i

-- the values that the steps sent on wire w, in order
abbrev pub passed_on : ProgramSet → MachineState → List ℕ → ℕ → List ℕ
passed_on set s steps w = passed (machine_of set) s steps w

-- the local state of processor p right after its k-th step, and its first one for k = 0
abbrev pub kth_local : ProgramSet → MachineState → List ℕ → ℕ → ℕ → Option Local
kth_local set s steps p k = kth (machine_of set) s steps p k

-- no processor is enabled
abbrev pub IsQuiet : ProgramSet → MachineState → Type 0
IsQuiet set s = IsQuietState (machine_of set) s

-- a lawful list of steps from the start that comes to rest
pub record IsRun (set : ProgramSet) (steps : List ℕ) : Type 0 where
  pub lawful : IsLawful set steps
  pub quiet : IsQuiet set (end set steps)

-- the mark is that of a trap
abbrev pub is_trap : Mark → Bool
is_trap (mark.Trapped cause) = true
is_trap _ = false

-- a processor is trapped
abbrev pub is_trapped : Local → Bool
is_trapped (Tile l) = is_trap l.mark
is_trapped (Switch l) = is_trap l.mark
is_trapped _ = false

-- a tile or switch is neither halted nor trapped, and has executed as many instructions as the limit says
abbrev pub is_at_limit : ProgramSet → Local → Bool
is_at_limit set (Tile l) = not (is_ended l.mark) && (l.count == set.limit)
is_at_limit set (Switch l) = not (is_ended l.mark) && (l.count == set.limit)
is_at_limit set _ = false
