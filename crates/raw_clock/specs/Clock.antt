-- The clock of a program set: cycles of its machine, in which tiles take the stall turns that they owe.
use Rattle.std.specs.Prelude.{◌≡◌, ℕ, ◌*◌, ◌<◌, Bool, true, false, ◌==◌, nat_lt, List, length, sum_by}
use Rattle.std.specs.List.{filter, count_by, range_with_len}
use Rattle.raw_network.specs.Network.{Network, State, count_of}
use Rattle.raw_grid.specs.Topology.{tile_count, proc_count}
use Rattle.raw_model.specs.Program.{ProgramSet}
use Rattle.raw_model.specs.Local.{Local}
use Rattle.raw_model.specs.Machine.{machine_of}
use Rattle.raw_model.specs.Start.{MachineState, start}
use Rattle.raw_model.specs.Rest.{stopped, passed_on}
use Rattle.raw_model.specs.Waits.{first_wait, inputs_at, outputs_at}
use Rattle.raw_model.specs.Cache.{misses, turns, stream_of}
use Rattle.raw_serial.specs.declared.turn.Turn.{Turn}
use Rattle.raw_serial.specs.declared.turn.Turn.TheVariants.{Fired, Stalled, Stopped, Waits}
use Rattle.raw_serial.specs.Turns.{turn_by}
use Rattle.raw_lockstep.specs.Lockstep.{cycles, after_cycles}
use Rattle.raw_lockstep.specs.Stalls.{Paying, with_stalls, unpaid, without_stalls, owes_at, paid_by, steps_in}

-- what touches of a processor cost: the stall turns of those that miss
abbrev pub cost_of : ProgramSet → ℕ → List ℕ → ℕ
cost_of set p touched = turns (stream_of set p) (misses touched)

-- the machine of a set, with stall turns
abbrev pub clocked : ProgramSet → Network (Paying Local)
clocked set = with_stalls (machine_of set) (cost_of set)

-- a state of the clock: of each processor its local state, what it has touched, and the stall turns that it has paid
abbrev pub ClockState : Type 0
ClockState = State (Paying Local)

-- the state of the machine in it
abbrev pub machine_at : ClockState → MachineState
machine_at c = without_stalls c

-- nothing is done, touched or paid
abbrev pub first_clock : ProgramSet → ClockState
first_clock set = unpaid (start set)

-- the turns of the first k cycles, and the steps among them
abbrev pub clock_turns : ProgramSet → ℕ → List ℕ
clock_turns set k = cycles (clocked set) (first_clock set) k

abbrev pub steps_of : ProgramSet → ClockState → List ℕ → List ℕ
steps_of set c turns = steps_in (machine_of set) (cost_of set) c turns

abbrev pub clock_steps : ProgramSet → ℕ → List ℕ
clock_steps set k = steps_of set (first_clock set) (clock_turns set k)

-- the clock after k cycles
abbrev pub clock : ProgramSet → ℕ → ClockState
clock set k = after_cycles (clocked set) (first_clock set) k

-- tile p owes stall turns
abbrev pub owes : ProgramSet → ClockState → ℕ → Bool
owes set c p = owes_at (cost_of set) c p

-- what the turn of processor p comes to: it is stopped, owes a stall turn, waits, or takes a step
abbrev pub turn_in : ProgramSet → ClockState → ℕ → Turn
turn_in set c p = turn_by (stopped set (machine_at c) p) (owes set c p) (first_wait set (machine_at c) p)

-- kinds of turns
abbrev pub is_fired : Turn → Bool
is_fired Fired = true
is_fired _ = false

abbrev pub is_stalled : Turn → Bool
is_stalled Stalled = true
is_stalled _ = false

abbrev pub is_stop : Turn → Bool
is_stop Stopped = true
is_stop _ = false

-- it waits for one of these wires
abbrev pub waits_in : List ℕ → Turn → Bool
waits_in wires (Waits wire) = nat_lt 0 (count_of wire.0 wires)
waits_in wires _ = false

-- it waits for a value on an input of processor p, or for room on an output
abbrev pub is_starved : ProgramSet → ℕ → Turn → Bool
is_starved set p turn = waits_in (inputs_at set.topo p) turn

abbrev pub is_blocked : ProgramSet → ℕ → Turn → Bool
is_blocked set p turn = waits_in (outputs_at set.topo p) turn

-- the turn goes on: it is a step, or pays a stall turn
abbrev pub goes : Turn → Bool
goes Fired = true
goes Stalled = true
goes _ = false

-- the processors that take a step in a cycle, by rising number
abbrev pub fired : ProgramSet → ClockState → List ℕ
fired set c = filter (λ p. is_fired (turn_in set c p)) (range_with_len 0 (proc_count set.topo))

-- no turn goes on
abbrev pub IsOver : ProgramSet → ClockState → Type 0
IsOver set c = (p : ℕ) → p < proc_count set.topo → goes (turn_in set c p) ≡ false

-- a turn that goes on
pub record GoesOn (set : ProgramSet) (c : ClockState) : Type 0 where
  pub p : ℕ
  pub there : p < proc_count set.topo
  pub does : goes (turn_in set c p) ≡ true

-- the set has n cycles: its clock goes on until it is over after n
pub record HasCycles (set : ProgramSet) (n : ℕ) : Type 0 where
  pub over : IsOver set (clock set n)
  pub before : (k : ℕ) → k < n → GoesOn set (clock set k)

-- in how many of the first n cycles the turn of processor p is of a kind
abbrev pub spent : ProgramSet → ℕ → ℕ → (Turn → Bool) → ℕ
spent set n p kind = count_by (λ k. kind (turn_in set (clock set k) p)) (range_with_len 0 n)

-- the test of a wait for one wire
abbrev pub waits_for_wire : ℕ → Turn → Bool
waits_for_wire w (Waits wire) = wire.0 == w
waits_for_wire w _ = false

-- and in how many it waits for this wire
abbrev pub waited : ProgramSet → ℕ → ℕ → ℕ → ℕ
waited set n p w = spent set n p (waits_for_wire w)

-- how many values are sent on wire w in the first n cycles
abbrev pub passed_in : ProgramSet → ℕ → ℕ → ℕ
passed_in set n w = length (passed_on set (start set) (clock_steps set n) w)

-- how many steps tiles and switches take in the first n cycles
abbrev pub program_steps : ProgramSet → ℕ → ℕ
program_steps set n = sum_by (λ p. spent set n p is_fired) (range_with_len 0 (2 * tile_count set.topo))

-- how many stall turns are paid in the first n cycles
abbrev pub stalls_paid : ProgramSet → ℕ → ℕ
stalls_paid set n = sum_by (λ p. paid_by (clock set n) p) (range_with_len 0 (proc_count set.topo))
