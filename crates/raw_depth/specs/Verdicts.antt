-- What a set comes to at each depth, and the verdict on its deadlock.
use Rattle.std.specs.Prelude.{◌≡◌, ℕ, Bool, true, false, Option, Some, None, List, ◌∷◌}
use Rattle.std.specs.List.{find, range_with_len}
use Rattle.raw_model.specs.declared.limits.TheConstants.{MAX_DEPTH}
use Rattle.raw_model.specs.Program.{ProgramSet}
use Rattle.raw_model.specs.Start.{MachineState}
use Rattle.raw_model.specs.Rest.{end}
use Rattle.raw_model.specs.Serial.{serial}
use Rattle.raw_model.specs.Outcomes.{Outcome, outcome}
use Rattle.raw_model.specs.Outcomes.Outcome.{Done, Deadlock}
use Rattle.raw_depth.specs.Depth.{at_depth, all_for_values, StaysValueCycle}

-- the depths that a set may have, by rising number
abbrev pub all_depths : List ℕ
all_depths = range_with_len 1 MAX_DEPTH

-- the state in which a set rests
unfoldable pub rest_of : ProgramSet → MachineState
rest_of set = end set (serial set)

-- the state in which it rests at depth d, all else as it says
abbrev pub rest_at : ProgramSet → ℕ → MachineState
rest_at set d = rest_of (at_depth set d)

-- how it comes to rest there
abbrev pub outcome_at : ProgramSet → ℕ → Outcome
outcome_at set d = outcome (at_depth set d) (rest_at set d)

-- it is done
abbrev pub is_done : Outcome → Bool
is_done Done = true
is_done _ = false

-- it is deadlocked, and on the cycle that its report shows each processor waits for a value, and none for room
abbrev pub is_value_deadlock : ProgramSet → MachineState → Outcome → Bool
is_value_deadlock set s (Deadlock p ps) = all_for_values set s (p ∷ ps)
is_value_deadlock set s _ = false

-- a state of a set is such
unfoldable pub waits_for_values : ProgramSet → MachineState → Bool
waits_for_values set s = is_value_deadlock set s (outcome set s)

-- what deeper wires come to: done from this depth on, never done for the cycle at this depth, or neither
pub data Verdict : Type 0 where
  DoneFrom : ℕ → Verdict
  NeverDone : ℕ → Verdict
  NotDone : Verdict

-- the first of the two that is there
abbrev pub verdict_by : Option ℕ → Option ℕ → Verdict
verdict_by (Some d) cycle = DoneFrom d
verdict_by None (Some d) = NeverDone d
verdict_by None None = NotDone

-- the least depth at which the set is done; else the least at which it is deadlocked for values alone
unfoldable pub verdict : ProgramSet → Verdict
verdict set =
    verdict_by (find (λ d. is_done (outcome_at set d)) all_depths) (find (λ d. waits_for_values (at_depth set d) (rest_at set d)) all_depths)

-- The deadlock to which a set comes at one depth is there in a state of the set with depth d: the processors of its cycle wait
-- for the same wires as there, each for a value.
pub record StaysDeadlocked (set : ProgramSet) (from d : ℕ) (s : MachineState) : Type 0 where
  pub p : ℕ
  pub ps : List ℕ
  pub deadlock : outcome_at set from ≡ Deadlock p ps
  pub stays : StaysValueCycle (at_depth set from) d (rest_at set from) s p ps
