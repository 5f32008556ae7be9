-- What is counted of the cycles of a set.
use Rattle.std.specs.Prelude.{◌≡◌, ℕ, ◌+◌, ◌<◌, ◌^◌, Bool, true, false, not, ◌==◌, List, length, slice_get, slice_index, slice_set, Some}
use Rattle.raw_grid.specs.Topology.{Topology, proc_count}
use Rattle.raw_grid.specs.Wires.{wires_of, producer_of, consumer_of}
use Rattle.raw_model.specs.Program.{ProgramSet}
use Rattle.raw_serial.specs.declared.turn.Turn.{Turn}
use Rattle.raw_serial.specs.declared.turn.Turn.TheVariants.{Fired, Stalled, Stopped, Waits}
use Rattle.raw_clock.specs.declared.tally.Spent.{Spent}
use Rattle.raw_clock.specs.declared.tally.Tally.{Tally}
use Rattle.raw_clock.specs.Clock.{is_fired, is_stalled, is_stop, is_starved, is_blocked, spent, waited}

-- how the first n cycles of processor p were spent
pub record IsSpentAs (set : ProgramSet) (n p : ℕ) (s : Spent) : Type 0 where
  pub fired : s.fired ≡ spent set n p is_fired
  pub stalled : s.stalled ≡ spent set n p is_stalled
  pub starved : s.starved ≡ spent set n p (is_starved set p)
  pub blocked : s.blocked ≡ spent set n p (is_blocked set p)
  pub stopped : s.stopped ≡ spent set n p is_stop

-- What is counted of so many cycles of each processor: how they were spent, and in how many the processor at either end
-- of a wire waited for it.
pub record IsTallyBy (set : ProgramSet) (many : ℕ → ℕ) (t : Tally) : Type 0 where
  pub each : length t.spent.items ≡ proc_count set.topo
  pub spent : (p : ℕ) (s : Spent) → slice_get t.spent.items p ≡ Some s → IsSpentAs set (many p) p s
  pub each_input : length t.inputs.items ≡ length (wires_of set.topo)
  pub each_output : length t.outputs.items ≡ length (wires_of set.topo)
  pub inputs : (w : ℕ) → w < length (wires_of set.topo) →
      slice_index t.inputs.items w ≡ waited set (many (consumer_of set.topo w)) (consumer_of set.topo w) w
  pub outputs : (w : ℕ) → w < length (wires_of set.topo) →
      slice_index t.outputs.items w ≡ waited set (many (producer_of set.topo w)) (producer_of set.topo w) w

-- what is counted of the first n cycles
abbrev pub IsTally : ProgramSet → ℕ → Tally → Type 0
IsTally set n t = IsTallyBy set (λ p. n) t

-- a processor with this turn waits for a value
abbrev pub starves : Topology → ℕ → Turn → Bool
starves topo p (Waits wire) = consumer_of topo wire.0 == p
starves topo p _ = false

-- n cycles more
abbrev pub noted : Turn → Bool → ℕ → Spent → Spent
noted Fired starving n s = record s { fired = s.fired + n }
noted Stalled starving n s = record s { stalled = s.stalled + n }
noted Stopped starving n s = record s { stopped = s.stopped + n }
noted (Waits wire) true n s = record s { starved = s.starved + n }
noted (Waits wire) false n s = record s { blocked = s.blocked + n }

-- and n waits more, where they are some at this end
abbrev pub waited_more : Bool → Turn → ℕ → List ℕ → List ℕ
waited_more true (Waits wire) n waits = slice_set waits wire.0 (slice_index waits wire.0 + n)
waited_more here turn n waits = waits

-- there is room for more cycles
abbrev pub HasRoom : Spent → Type 0
HasRoom s = (s.fired < 2 ^ 63) × (s.stalled < 2 ^ 63) × (s.starved < 2 ^ 63) × (s.blocked < 2 ^ 63) × (s.stopped < 2 ^ 63)

abbrev pub HasRoomAt : Tally → ℕ → Type 0
HasRoomAt t p = (s : Spent) → slice_get t.spent.items p ≡ Some s → HasRoom s

abbrev pub AllHaveRoom : List ℕ → Type 0
AllHaveRoom waits = (w : ℕ) → slice_index waits w < 2 ^ 63

-- n cycles in which processor p had this turn were counted
pub record IsNoted (topo : Topology) (p : ℕ) (turn : Turn) (n : ℕ) (old new : Tally) : Type 0 where
  pub spent : (s : Spent) → slice_get old.spent.items p ≡ Some s → new.spent.items ≡ slice_set old.spent.items p (noted turn (starves topo p turn) n s)
  pub inputs : new.inputs.items ≡ waited_more (starves topo p turn) turn n old.inputs.items
  pub outputs : new.outputs.items ≡ waited_more (not (starves topo p turn)) turn n old.outputs.items

-- it waits for a wire that is there
abbrev pub WaitsThere : Topology → Turn → Type 0
WaitsThere topo (Waits wire) = wire.0 < length (wires_of topo)
WaitsThere topo _ = Unit {0}
