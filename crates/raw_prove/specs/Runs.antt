-- The serial run of a machine with terms.
use Rattle.std.specs.Prelude.{◌≡◌, ◌⊎◌, ℕ, ◌+◌, ◌≤◌, Option, Some, None, List}
use Rattle.std.specs.List.{range_with_len}
use Rattle.raw_grid.specs.Topology.{proc_count}
use Rattle.raw_model.specs.Program.{ProgramSet}
use Rattle.raw_model.specs.Bounds.{most_steps}
use Rattle.raw_model.specs.Rest.{IsQuiet, IsRun, end}
use Rattle.raw_model.specs.Waits.{waits_for}
use Rattle.raw_model.specs.Outcomes.{outcome}
use Rattle.raw_outcome.specs.declared.ends.Outcome.{Outcome}
use Rattle.raw_outcome.specs.Told.{told}
use Rattle.raw_term.specs.TermMachine.{TermState, numbered}
use Rattle.raw_term.specs.Verdicts.{OnInput, OnTable, TermRun, swept, ran, first_run}
use Rattle.raw_term.specs.Control.{TermsRest}
use Rattle.raw_prove.specs.declared.machine.Machine.{Machine}
use Rattle.raw_prove.specs.declared.running.End.{End}
use Rattle.raw_prove.specs.declared.running.End.TheVariants.{Rests, Hangs, TooMany}
use Rattle.raw_prove.specs.Units.{state_of, MachineStands}
use Rattle.raw_prove.specs.Turns.{StaysIdle, TakesStep, HangsThere, NeedsMore}

-- a run that goes on from a state, after so many steps
abbrev pub going : TermState → ℕ → TermRun
going s steps = record { at = s; steps = steps; broken = None }

-- one sweep over all processors
abbrev pub swept_once : ProgramSet → TermRun → TermRun
swept_once set r = swept (numbered set) r (range_with_len 0 (proc_count set.topo))

-- the machine is where the run of the set is after some sweeps, and so many steps
pub record IsReached (set : ProgramSet) (m : Machine) (steps : ℕ) : Type 0 where
  pub sweeps : ℕ
  pub there : ran (numbered set) sweeps (first_run set) ≡ going (state_of m) steps

-- the run breaks off so
abbrev pub BreaksAs : TermRun → End → Type 0
BreaksAs r Rests = ⊥
BreaksAs r (Hangs step p) = (r.broken ≡ Some (OnInput p.0)) × (r.steps ≡ step)
BreaksAs r TooMany = r.broken ≡ Some OnTable

-- a turn of processor p, which is counted where it is a step, by how the run breaks off in it
abbrev pub IsCountedTurn : ProgramSet → ℕ → Machine → ℕ → Option End → Machine → ℕ → Type 0
IsCountedTurn set p old before None new steps = (StaysIdle set p old new × (steps ≡ before)) ⊎ (TakesStep set p old new × (steps ≡ before + 1))
IsCountedTurn set p old before (Some Rests) new steps = ⊥
IsCountedTurn set p old before (Some (Hangs step q)) new steps = HangsThere set p old × (step ≡ before) × (q.0 ≡ p)
IsCountedTurn set p old before (Some TooMany) new steps = NeedsMore set p old

-- a whole sweep
pub record IsWholeSweep (set : ProgramSet) (old : Machine) (before : ℕ) (new : Machine) (steps : ℕ) : Type 0 where
  pub swept : swept_once set (going (state_of old) before) ≡ going (state_of new) steps
  pub more : before ≤ steps
  pub few : steps ≤ most_steps set
  pub quiet : steps ≡ before → IsQuiet (numbered set) (state_of new).state
  pub stands : MachineStands set new

-- a sweep, by how the run breaks off in it
abbrev pub IsSweep : ProgramSet → Machine → ℕ → Option End → Machine → ℕ → Type 0
IsSweep set old before None new steps = IsWholeSweep set old before new steps
IsSweep set old before (Some end) new steps = BreaksAs (swept_once set (going (state_of old) before)) end

-- the run of the set comes to rest where the machine is
pub record RestsAt (set : ProgramSet) (m : Machine) : Type 0 where
  pub sweeps : ℕ
  pub steps : ℕ
  pub there : ran (numbered set) sweeps (first_run set) ≡ going (state_of m) steps
  pub quiet : IsQuiet (numbered set) (state_of m).state

-- the run of the set breaks off so
pub record Breaks (set : ProgramSet) (end : End) : Type 0 where
  pub sweeps : ℕ
  pub as_said : BreaksAs (ran (numbered set) sweeps (first_run set)) end

-- how the run of the set ends
abbrev pub IsEnd : ProgramSet → Machine → End → Type 0
IsEnd set m Rests = RestsAt set m
IsEnd set m (Hangs step p) = Breaks set (Hangs step p)
IsEnd set m TooMany = Breaks set TooMany

-- how a run with terms ends of which no machine is seen: where it rests, it does so with no step that hung on an input
abbrev pub EndsAs : ProgramSet → End → Type 0
EndsAs set Rests = (sweeps : ℕ) × TermsRest set sweeps
EndsAs set (Hangs step p) = Breaks set (Hangs step p)
EndsAs set TooMany = Breaks set TooMany

-- each run of a set comes to rest so
abbrev pub IsOutcomeOf : ProgramSet → Outcome → Type 0
IsOutcomeOf set how = (steps : List ℕ) → IsRun set steps → told (waits_for set (end set steps)) how ≡ outcome set (end set steps)
