-- The path of a set: one turn of each cycle, each of which had to wait for the one before it.
use Rattle.std.specs.Prelude.{ℕ, zero, suc, ◌+◌, ◌-◌, ◌==◌, Bool, Option, Some, None, List, [], ◌∷◌, slice_get, sum_by, unwrap_or, if◌then◌else◌}
use Rattle.std.specs.List.{find, range_with_len}
use Rattle.raw_pace.specs.Path.{far_end, far_or}
use Rattle.raw_grid.specs.Topology.{Topology, proc_count}
use Rattle.raw_grid.specs.Wires.{producer_of, consumer_of}
use Rattle.raw_model.specs.Program.{ProgramSet}
use Rattle.raw_serial.specs.declared.turn.Turn.{Turn}
use Rattle.raw_serial.specs.declared.turn.Turn.TheVariants.{Waits}
use Rattle.raw_clock.specs.Clock.{machine_at, clock, turn_in, is_stalled, goes}
use Rattle.raw_trace.specs.Parts.{pc_of}
use Rattle.raw_path.specs.declared.stretch.Stretch.{Stretch}
use Rattle.raw_path.specs.declared.stretch.WaitedFor.{WaitedFor}
use Rattle.raw_path.specs.declared.stretch.WaitedFor.TheVariants.{Nothing, Value, Room}

-- the wire for which a turn waits
abbrev pub wire_of : Turn → Option ℕ
wire_of (Waits wire) = Some wire.0
wire_of _ = None

-- the wire for which processor p waits in cycle k
abbrev pub wire_in : ProgramSet → ℕ → ℕ → Option ℕ
wire_in set k p = wire_of (turn_in set (clock set k) p)

-- whether processor p goes on in cycle k
abbrev pub goes_in : ProgramSet → ℕ → ℕ → Bool
goes_in set k p = goes (turn_in set (clock set k) p)

-- the processor whose turn of cycle k is needed by the turn of p in the next one: p itself, where it waits for no wire in cycle k, else the
-- other end of that wire
abbrev pub before : ProgramSet → ℕ → ℕ → ℕ
before set k p = far_or (producer_of set.topo) (consumer_of set.topo) p (wire_in set k p)

-- the pc of processor p before cycle k; 0 for a port
abbrev pub pc_at : ProgramSet → ℕ → ℕ → ℕ
pc_at set k p = pc_of (slice_get (machine_at (clock set k)).locals p)

-- whether p waits for a value on this wire or for room, where it waits for it
abbrev pub waited_for : Topology → ℕ → ℕ → WaitedFor
waited_for topo p w = if consumer_of topo w == p then Value w else Room w

-- the stretch of processor p from one cycle up to another
abbrev pub stretch_of : ProgramSet → ℕ → ℕ → ℕ → WaitedFor → Stretch
stretch_of set from to p wait =
    record { p = p; from = from; turns = to + 1 - from; first = pc_at set from p; last = pc_at set to p; wait = wait }

abbrev pub by_wait : {A : Type 0} → Option ℕ → A → (ℕ → A) → A
by_wait None own other = own
by_wait (Some w) own other = other w

-- The stretches of the way back from the turn of processor p in cycle k, the last one first; the last one ends in cycle `to`. The turn
-- before is p's own, where it waits for no wire in cycle k - 1, else that of the other end of the wire.
abbrev pub stretches : ProgramSet → ℕ → ℕ → ℕ → List Stretch
stretches set to zero p = stretch_of set 0 to p Nothing ∷ []
stretches set to (suc k) p =
    by_wait (wire_in set k p) (stretches set to k p)
    (λ w. stretch_of set (suc k) to p (waited_for set.topo p w) ∷ stretches set k k (far_end (producer_of set.topo) (consumer_of set.topo) p w))

abbrev pub one_stall : Bool → ℕ
one_stall stalled = if stalled then 1 else 0

-- how many turns of that way back are stall turns
abbrev pub stalls_to : ProgramSet → ℕ → ℕ → ℕ
stalls_to set zero p = one_stall (is_stalled (turn_in set (clock set 0) p))
stalls_to set (suc k) p = stalls_to set k (before set k p) + one_stall (is_stalled (turn_in set (clock set (suc k)) p))

-- the least processor that goes on in cycle k
abbrev pub last_of : ProgramSet → ℕ → ℕ
last_of set k = unwrap_or (find (λ p. goes_in set k p) (range_with_len 0 (proc_count set.topo))) 0

-- the path of a set of n cycles, in stretches, the last one first, and its stall turns; of a set without cycles nothing
abbrev pub path_of : ProgramSet → ℕ → List Stretch
path_of set zero = []
path_of set (suc k) = stretches set k k (last_of set k)

abbrev pub stalls_of : ProgramSet → ℕ → ℕ
stalls_of set zero = 0
stalls_of set (suc k) = stalls_to set k (last_of set k)

-- one for a wait for a value, and for room
abbrev pub one_value : WaitedFor → ℕ
one_value (Value w) = 1
one_value _ = 0

abbrev pub one_room : WaitedFor → ℕ
one_room (Room w) = 1
one_room _ = 0

-- how many stretches begin behind a wait for a value, and for room
abbrev pub values_in : List Stretch → ℕ
values_in ss = sum_by (λ (s : Stretch). one_value s.wait) ss

abbrev pub room_in : List Stretch → ℕ
room_in ss = sum_by (λ (s : Stretch). one_room s.wait) ss

-- how many turns these stretches have on processor p, and together
abbrev pub turns_if : ℕ → Stretch → ℕ
turns_if p s = if s.p == p then s.turns else 0

abbrev pub turns_on : ℕ → List Stretch → ℕ
turns_on p ss = sum_by (turns_if p) ss

abbrev pub all_turns : List Stretch → ℕ
all_turns ss = sum_by (λ (s : Stretch). s.turns) ss
