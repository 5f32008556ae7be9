-- A machine that runs a set: its state, and what the caches of its tiles hold and cost.
use Rattle.std.specs.Prelude.{◌≡◌, ◌≢◌, ℕ, ◌-◌, ◌<◌, ◌≤◌, nat_lt, List, [], ◌∷◌, ◌++◌, slice_get, slice_set, slice_index, slice_index_or}
use Rattle.raw_network.specs.Network.{count_of}
use Rattle.raw_grid.specs.Topology.{tile_count}
use Rattle.raw_model.specs.Program.{ProgramSet}
use Rattle.raw_model.specs.Start.{MachineState, start}
use Rattle.raw_model.specs.Rest.{IsLawful, end, step, stopped}
use Rattle.raw_model.specs.Cache.{HeldLines, StandsFor, touches_of, misses, stream_of}
use Rattle.raw_model.specs.Waits.{first_wait}
use Rattle.raw_processor.specs.Touching.{owed_after}
use Rattle.raw_serial.specs.declared.turn.Turn.{Turn}
use Rattle.raw_serial.specs.declared.turn.Turn.TheVariants.{Fired, Stalled, Stopped, Waits}
use Rattle.raw_serial.specs.Turns.{turn_by}

-- a set and a state of its machine; of each processor what its cache holds, how often it missed, and how many
-- stall turns it owes, where all but tiles have nothing of these
pub record Running : Type 0 where
  pub set : ProgramSet
  pub state : MachineState
  pub caches : List (List HeldLines)
  pub missed : List ℕ
  pub owed : List ℕ

-- processor p takes none of the steps
abbrev pub TakesNone : ℕ → List ℕ → Type 0
TakesNone p steps = count_of p steps ≡ 0

-- processor p takes its last one of the steps right behind this front of them
pub record TakesLastBehind (p : ℕ) (steps front : List ℕ) : Type 0 where
  pub rest : List ℕ
  pub parts : steps ≡ front ++ p ∷ rest
  pub none_later : TakesNone p rest

-- how often tile t misses in a list of steps from the start of the set
abbrev pub misses_in : ProgramSet → List ℕ → ℕ → ℕ
misses_in set steps t = misses (touches_of set (start set) steps t)

-- a tile t that has taken these steps from the start, and owes so many stall turns, owes none but of its last step: at most
-- the number of that step's miss, and none where it did not miss or took no step
pub record OwesLast (set : ProgramSet) (steps : List ℕ) (t owed : ℕ) : Type 0 where
  pub none : TakesNone t steps → owed ≡ 0
  pub last : (front : List ℕ) → TakesLastBehind t steps front →
      owed ≤ owed_after (stream_of set t) (misses_in set front t) (misses_in set steps t)

-- a lawful list of steps leads from the start of the set to its state; each tile's cache stands for what the
-- tile touched in the list, its count is that of the misses among them, and it owes no stall turns but of its last step
pub record IsRunBy (m : Running) (steps : List ℕ) : Type 0 where
  pub lawful : IsLawful m.set steps
  pub there : end m.set steps ≡ m.state
  pub stands : (t : ℕ) → t < tile_count m.set.topo → StandsFor (slice_index_or m.caches t []) (touches_of m.set (start m.set) steps t)
  pub missed : (t : ℕ) → t < tile_count m.set.topo → slice_index m.missed t ≡ misses_in m.set steps t
  pub owed : (t : ℕ) → t < tile_count m.set.topo → OwesLast m.set steps t (slice_index m.owed t)

-- some list of steps does
abbrev pub IsReached : Running → Type 0
IsReached m = ∥ ((steps : List ℕ) × IsRunBy m steps) ∥₁

-- what a turn of processor p comes to
abbrev pub turn_of : Running → ℕ → Turn
turn_of m p = turn_by (stopped m.set m.state p) (nat_lt 0 (slice_index m.owed p)) (first_wait m.set m.state p)

-- a step of processor p leads from one machine to the other
pub record IsStep (old new : Running) (p : ℕ) : Type 0 where
  pub set : new.set ≡ old.set
  pub state : new.state ≡ step old.set old.state p
  pub run : (steps : List ℕ) → IsRunBy old steps → IsRunBy new (steps ++ p ∷ [])
  pub owed : (t : ℕ) → t ≡ p → t < tile_count old.set.topo →
      slice_index new.owed t ≡ owed_after (stream_of old.set t) (slice_index old.missed t) (slice_index new.missed t)
  pub other_caches : (t : ℕ) → t ≢ p → slice_get new.caches t ≡ slice_get old.caches t
  pub other_misses : (t : ℕ) → t ≢ p → slice_get new.missed t ≡ slice_get old.missed t
  pub other_owed : (t : ℕ) → t ≢ p → slice_get new.owed t ≡ slice_get old.owed t

-- the machine with one stall turn less of tile p
abbrev pub stalled_once : Running → ℕ → Running
stalled_once m p = record m { owed = slice_set m.owed p (slice_index m.owed p - 1) }

-- what a turn makes of a machine
abbrev pub Follows : Turn → Running → Running → ℕ → Type 0
Follows Fired old new p = IsStep old new p
Follows Stalled old new p = new ≡ stalled_once old p
Follows Stopped old new p = new ≡ old
Follows (Waits wire) old new p = new ≡ old

-- a turn of processor p leads from one machine to the other
pub record IsTurnOf (old new : Running) (p : ℕ) (turn : Turn) : Type 0 where
  pub answer : turn ≡ turn_of old p
  pub set : new.set ≡ old.set
  pub after : Follows turn old new p
