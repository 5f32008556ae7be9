-- The lines of a trace, as what they tell.
use Rattle.std.specs.Prelude.{ℕ, ◌+◌, ◌-◌, Bool, true, false, not, ◌==◌, nat_lt, Option, Some, None, List, [], ◌∷◌, ◌++◌, slice_get, if◌then◌else◌}
use Rattle.std.specs.List.{flat_map, range_with_len}
use Rattle.raw_network.specs.Network.{event_of}
use Rattle.raw_grid.specs.Topology.{proc_count}
use Rattle.raw_model.specs.Program.{ProgramSet}
use Rattle.raw_model.specs.Machine.{machine_of}
use Rattle.raw_model.specs.Cache.{misses}
use Rattle.raw_model.specs.StateTexts.{mark_of}
use Rattle.raw_lockstep.specs.Stalls.{touched_by}
use Rattle.raw_serial.specs.declared.turn.Turn.{Turn}
use Rattle.raw_serial.specs.declared.turn.Turn.TheVariants.{Fired, Stalled, Stopped, Waits}
use Rattle.raw_clock.specs.Clock.{ClockState, machine_at, clock, turn_in}
use Rattle.raw_trace.specs.declared.entry.Entry.{Entry}
use Rattle.raw_trace.specs.Parts.{pc_of}
use Rattle.raw_trace.specs.Firing.{step_entries, miss_cost}
use Rattle.raw_trace.specs.Standing.{state_entries}

-- a line
pub data Line : Type 0 where
  -- the trace begins with this cycle
  Begins : ℕ → Line
  -- a processor in the state before the first cycle: its number, its pc, and what else is so
  Stands : ℕ → ℕ → List Entry → Line
  -- what follows are the turns of this cycle
  Cycle : ℕ → Line
  -- a processor takes a step: its number, its pc behind it, and what it takes, sends, writes and touches
  Fires : ℕ → ℕ → List Entry → Line
  -- it pays a stall turn
  Stalls : ℕ → Line
  -- it waits for this wire
  Waiting : ℕ → ℕ → Line
  -- it takes no more steps, and has this mark
  Stopping : ℕ → List ℕ → Line

-- a line of a state, where something is told
abbrev pub standing : ℕ → ℕ → List Entry → List Line
standing p pc [] = []
standing p pc (e ∷ es) = Stands p pc (e ∷ es) ∷ []

-- the line of processor p in a state of the clock
abbrev pub state_line : ProgramSet → ClockState → ℕ → List Line
state_line set c p =
    standing p (pc_of (slice_get (machine_at c).locals p)) (state_entries set (machine_at c) p (misses (touched_by c p)))

-- what the next step of processor p tells
unfoldable pub firing_entries : ProgramSet → ClockState → ℕ → List Entry
firing_entries set c p =
    step_entries set (machine_at c) p (miss_cost set p (touched_by c p) (event_of (machine_of set) (machine_at c) p).touched)

-- the pc of processor p behind its next step
abbrev pub next_pc : ProgramSet → ClockState → ℕ → ℕ
next_pc set c p = pc_of (event_of (machine_of set) (machine_at c) p).after

-- the line of a turn of processor p
abbrev pub turn_line : ProgramSet → ClockState → ℕ → Turn → Line
turn_line set c p Fired = Fires p (next_pc set c p) (firing_entries set c p)
turn_line set c p Stalled = Stalls p
turn_line set c p Stopped = Stopping p (mark_of set (machine_at c) p)
turn_line set c p (Waits wire) = Waiting p wire.0

-- a turn is told, unless it is a wait for the wire for which the processor waited in the cycle before, or it was stopped
-- there already
abbrev pub is_told : Turn → Option Turn → Bool
is_told (Waits wire) (Some (Waits before)) = not (wire.0 == before.0)
is_told Stopped (Some Stopped) = false
is_told turn before = true

-- the turn of processor p in the cycle before k, in a trace that begins with cycle `first`: none where that is k
abbrev pub turn_before : ProgramSet → ℕ → ℕ → ℕ → Option Turn
turn_before set first k p = if k == first then None else Some (turn_in set (clock set (k - 1)) p)

-- the line of the turn of processor p in cycle k, where it is told
abbrev pub told_line : ProgramSet → ClockState → ℕ → Turn → Option Turn → List Line
told_line set c p turn before = if is_told turn before then turn_line set c p turn ∷ [] else []

abbrev pub turn_lines : ProgramSet → ℕ → ℕ → ℕ → List Line
turn_lines set first k p = told_line set (clock set k) p (turn_in set (clock set k) p) (turn_before set first k p)

-- the lines of cycle k
abbrev pub cycle_lines : ProgramSet → ℕ → ℕ → List Line
cycle_lines set first k = Cycle k ∷ flat_map (turn_lines set first k) (range_with_len 0 (proc_count set.topo))

-- the lesser of two numbers
abbrev pub lesser : ℕ → ℕ → ℕ
lesser a b = if nat_lt a b then a else b

-- the first cycle of a trace that is asked for from a cycle on, where the set has n cycles, and the first one past it where so
-- many are asked for at most
abbrev pub first_told : ℕ → ℕ → ℕ
first_told n from = lesser from n

abbrev pub past_told : ℕ → ℕ → ℕ → ℕ
past_told n from most = lesser (first_told n from + most) n

-- how many positions are told: the cycles, and the state at rest where the last cycle is among them
abbrev pub positions : ℕ → ℕ → ℕ → ℕ
positions n first past = if past == n then past - first + 1 else past - first

-- the lines of a trace from cycle `first` to before `past`, of a set that has n cycles
unfoldable pub trace_lines : ProgramSet → ℕ → ℕ → ℕ → List Line
trace_lines set n first past =
    Begins first
    ∷ (flat_map (state_line set (clock set first)) (range_with_len 0 (proc_count set.topo))
    ++ flat_map (cycle_lines set first) (range_with_len first (positions n first past)))
