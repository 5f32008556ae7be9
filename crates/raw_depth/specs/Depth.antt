-- A program set whose wires hold another number of values.
use Rattle.std.specs.Prelude.{◌≡◌, ℕ, Bool, true, false, ◌||◌, ◌==◌, Option, Some, None, List, [], ◌∷◌}
use Rattle.std.specs.List.{list_all}
use Rattle.raw_grid.specs.Topology.{Topology}
use Rattle.raw_grid.specs.Wires.{consumer_of}
use Rattle.raw_cycle.specs.Cycles.{IsCycle}
use Rattle.raw_model.specs.Program.{ProgramSet}
use Rattle.raw_model.specs.Local.{Local, Source}
use Rattle.raw_model.specs.Start.{MachineState}
use Rattle.raw_model.specs.Rest.{IsLawfulFrom, end_from, event, passed_on}
use Rattle.raw_model.specs.Waits.{first_wait, waits_for}
use Rattle.raw_model.specs.Cache.{touches_of}
use Rattle.raw_model.specs.Laws.{events_at}

-- the set in which a wire holds at most d values, and all else is as this set says
abbrev pub at_depth : ProgramSet → ℕ → ProgramSet
at_depth set d = record set { depth = d }

-- a list of steps that is lawful in the set is lawful at depth d; it does the same there, and ends in the same state
pub record RunsDeeper (set : ProgramSet) (d : ℕ) (s : MachineState) (steps : List ℕ) : Type 0 where
  pub lawful : IsLawfulFrom (at_depth set d) s steps
  pub same_end : end_from (at_depth set d) s steps ≡ end_from set s steps
  pub same_events : (i : ℕ) → event (at_depth set d) s steps i ≡ event set s steps i
  pub same_events_at : (p : ℕ) → events_at (at_depth set d) s steps p ≡ events_at set s steps p
  pub same_passed : (wire : ℕ) → passed_on (at_depth set d) s steps wire ≡ passed_on set s steps wire
  pub same_touches : (tile : ℕ) → touches_of (at_depth set d) s steps tile ≡ touches_of set s steps tile

-- the local state is that of a source
abbrev pub is_source : Local → Bool
is_source (Source l) = true
is_source _ = false

-- the wire leads to processor p, which so waits for a value on it, and not for room
abbrev pub is_for_value : Topology → ℕ → Option ℕ → Bool
is_for_value topo p None = false
is_for_value topo p (Some wire) = consumer_of topo wire == p

-- processor p waits first for a value
abbrev pub waits_for_value : ProgramSet → MachineState → ℕ → Bool
waits_for_value set s p = is_for_value set.topo p (first_wait set s p)

-- each of these processors waits first for a value, and none for room
abbrev pub all_for_values : ProgramSet → MachineState → List ℕ → Bool
all_for_values set s ps = list_all (waits_for_value set s) ps

-- processor p and these wait for one another, each for a value
pub record IsValueCycle (set : ProgramSet) (s : MachineState) (p : ℕ) (ps : List ℕ) : Type 0 where
  pub cycle : IsCycle (waits_for set s) p ps
  pub values : all_for_values set s (p ∷ ps) ≡ true

-- the processor stands in the list
abbrev pub is_among : ℕ → List ℕ → Bool
is_among q [] = false
is_among q (p ∷ ps) = (p == q) || is_among q ps

-- the cycle of state s is one of state t of the set with depth d, and its processors wait for the same wires
pub record StaysValueCycle (set : ProgramSet) (d : ℕ) (s t : MachineState) (p : ℕ) (ps : List ℕ) : Type 0 where
  pub there : IsValueCycle (at_depth set d) t p ps
  pub waits : (q : ℕ) → is_among q (p ∷ ps) ≡ true → first_wait (at_depth set d) t q ≡ first_wait set s q
