-- What the engine knows of the path of a set while it is stepped by the clock.
use Rattle.std.specs.Prelude.{◌≡◌, ℕ, zero, suc, ◌<◌, ◌≤◌, true, Option, Some, None, List, length, slice_get, slice_index}
use Rattle.raw_pace.specs.Path.{far_end}
use Rattle.raw_grid.specs.Topology.{proc_count}
use Rattle.raw_grid.specs.Wires.{producer_of, consumer_of}
use Rattle.raw_model.specs.Program.{ProgramSet}
use Rattle.raw_serial.specs.Running.{Running}
use Rattle.raw_serial.specs.declared.turn.Turn.TheVariants.{Fired}
use Rattle.raw_clock.specs.Clock.{machine_at, clock, turn_in, HasCycles, program_steps}
use Rattle.raw_path.specs.declared.hops.End.{End}
use Rattle.raw_path.specs.declared.hops.Hop.{Hop}
use Rattle.raw_path.specs.declared.seen.Seen.{Seen}
use Rattle.raw_path.specs.declared.stretch.Stretch.{Stretch}
use Rattle.raw_path.specs.declared.told.Told.{Told}
use Rattle.raw_path.specs.declared.running.Path.{Path}
use Rattle.raw_path.specs.Path.{wire_in, goes_in, pc_at, stalls_to, path_of, stalls_of, values_in, room_in, turns_on}

-- in the cycles from one on, before another, processor p waits for no wire
abbrev pub WaitsForNone : ProgramSet → ℕ → ℕ → ℕ → Type 0
WaitsForNone set from to p = (k : ℕ) → from ≤ k → k < to → wire_in set k p ≡ None

-- a hop leads to the turn of p in cycle `from`, from which p goes on without a wait up to its turn in cycle k
pub record Leads (set : ProgramSet) (h : Hop) (k p : ℕ) : Type 0 where
  pub some : suc h.before.to ≡ h.from
  pub early : h.from ≤ k
  pub none : WaitsForNone set h.from k p
  pub waited : wire_in set h.before.to p ≡ Some h.wire
  pub first : h.first ≡ pc_at set h.from p
  pub other : h.before.p ≡ far_end (producer_of set.topo) (consumer_of set.topo) p h.wire

-- the stretch of p that has a turn in cycle k begins with this hop, or with cycle 0
abbrev pub Begins : ProgramSet → List Hop → Option ℕ → ℕ → ℕ → Type 0
Begins set hops None k p = WaitsForNone set 0 k p
Begins set hops (Some i) k p = (h : Hop) × (slice_get hops i ≡ Some h) × Leads set h k p

-- the end of a stretch: it has a turn of p in cycle `to`
pub record IsEnd (set : ProgramSet) (hops : List Hop) (e : End) : Type 0 where
  pub there : e.p < proc_count set.topo
  pub last : e.last ≡ pc_at set e.to e.p
  pub begins : Begins set hops e.hop e.to e.p

-- each hop leads on from the end of a stretch
abbrev pub AreHops : ProgramSet → List Hop → Type 0
AreHops set hops = (i : ℕ) (h : Hop) → slice_get hops i ≡ Some h → IsEnd set hops h.before

-- the others were kept
abbrev pub AreKept : List Hop → List Hop → Type 0
AreKept old new = (i : ℕ) (h : Hop) → slice_get old i ≡ Some h → slice_get new i ≡ Some h

-- this is the end of the stretch of the turn of p in cycle k
pub record IsReached (set : ProgramSet) (hops : List Hop) (k p : ℕ) (e : End) : Type 0 where
  pub stalls : e.stalled ≡ stalls_to set k p
  pub own : e.p ≡ p
  pub now : e.to ≡ k
  pub end : IsEnd set hops e

-- what is known of processor p after n cycles
abbrev pub IsKnown : ProgramSet → List Hop → ℕ → ℕ → Seen → Type 0
IsKnown set hops zero p s =
    (s.turn ≡ Fired) × (s.pc ≡ pc_at set 0 p) × (s.end.stalled ≡ 0) × (s.end.hop ≡ None)
IsKnown set hops (suc k) p s =
    (s.turn ≡ turn_in set (clock set k) p) × (s.pc ≡ pc_at set (suc k) p) × (goes_in set k p ≡ true → IsReached set hops k p s.end)

-- and of all
pub record AreKnown (set : ProgramSet) (hops : List Hop) (n : ℕ) (seen : List Seen) : Type 0 where
  pub many : length seen ≡ proc_count set.topo
  pub each : (p : ℕ) (s : Seen) → slice_get seen p ≡ Some s → IsKnown set hops n p s

-- what is told of some stretches on so many processors
pub record IsTold (procs stalls : ℕ) (ss : List Stretch) (told : Told) : Type 0 where
  pub stalled : told.stalled ≡ stalls
  pub stretches : told.stretches.items ≡ ss
  pub values : told.values ≡ values_in ss
  pub room : told.room ≡ room_in ss
  pub many : length told.turns.items ≡ procs
  pub turns : (p : ℕ) → slice_index told.turns.items p ≡ turns_on p ss

-- the path of the set of a machine, which stands where its clock is over
pub record IsPath (m : Running) (path : Path) : Type 0 where
  pub cycles : HasCycles m.set path.cycles
  pub steps : path.steps ≡ program_steps m.set path.cycles
  pub told : IsTold (proc_count m.set.topo) (stalls_of m.set path.cycles) (path_of m.set path.cycles) path.told
  pub state : m.state ≡ machine_at (clock m.set path.cycles)
