-- What was found of a set at the depths that it was run at.
use Rattle.std.specs.Prelude.{◌≡◌, ◌≢◌, ℕ, ◌+◌, ◌-◌, ◌<◌, ◌≤◌, Bool, true, false, Option, Some, None, MatchOption, option_map, List, [], ◌∷◌, ◌++◌, length}
use Rattle.std.specs.List.{find, flat_map, range_with_len}
use Rattle.std.specs.Global.{Vec}
use Rattle.std.specs.Option.{ForSome}
use Rattle.raw_model.specs.Program.{ProgramSet}
use Rattle.raw_model.specs.Outcomes.{outcome}
use Rattle.raw_model.specs.StateTexts.{outcome_word}
use Rattle.raw_outcome.specs.declared.ends.Outcome.{Outcome as Answer}
use Rattle.raw_outcome.specs.Told.{told, word_of}
use Rattle.raw_depth.specs.Depth.{at_depth}
use Rattle.raw_clock.specs.Clock.{clock, HasCycles}
use Rattle.raw_steady.specs.Count.{cycle_count}
use Rattle.raw_steady.specs.Steady.{NoneBlocked}
use Rattle.raw_depth.specs.Verdicts.{rest_of, rest_at, outcome_at, is_done, waits_for_values}
use Rattle.raw_depths.specs.declared.found.AtDepth.{AtDepth}
use Rattle.raw_depths.specs.declared.found.ValueDeadlock.{ValueDeadlock}
use Rattle.raw_depths.specs.declared.found.Depths.{Depths}
use Rattle.raw_depths.specs.declared.running.Rested.{Rested}
use Rattle.raw_depths.specs.Text.{program_steps, depth_line, cycles_at, line_at, report_of_set, report_at, cycle_lines}

-- whether an answer is that the set is done
abbrev pub is_done_answer : Answer → Bool
is_done_answer o = is_done (told (λ p. None) o)

-- how a set came to rest: its outcome, its steps, its report, and the waits of its cycle where each is for a value
pub record IsRestedOf (set : ProgramSet) (r : Rested) : Type 0 where
  pub word : word_of r.rest.outcome ≡ outcome_word (outcome set (rest_of set))
  pub done : is_done_answer r.rest.outcome ≡ is_done (outcome set (rest_of set))
  pub steps : r.rest.steps ≡ program_steps (rest_of set)
  pub cycles : r.rest.cycles ≡ cycle_count set
  pub report : r.report.items ≡ report_of_set set
  pub waits : MatchOption r.waits (waits_for_values set (rest_of set) ≡ false)
      (λ lines. (waits_for_values set (rest_of set) ≡ true) × (lines.items ≡ cycle_lines set (rest_of set)))

-- the deadlock at a depth that these lines are the waits of
abbrev pub deadlock_of : ℕ → Option (Vec ℕ) → Option ValueDeadlock
deadlock_of d None = None
deadlock_of d (Some lines) = Some (record { depth = d; waits = lines })

-- the lines of these, at the depths from d on
abbrev pub lines_of : ℕ → List AtDepth → List ℕ
lines_of d [] = []
lines_of d (rest ∷ rests) = depth_line d (word_of rest.outcome) rest.steps rest.cycles ++ lines_of (d + 1) rests

-- from depth d to depth n the reports are the same, and that before d is another
pub record IsSameTo (set : ProgramSet) (n d : ℕ) : Type 0 where
  pub some : 1 ≤ d
  pub few : d ≤ n
  pub same : (k : ℕ) → d ≤ k → k ≤ n → report_at set k ≡ report_at set n
  pub before : 1 < d → report_at set (d - 1) ≢ report_at set d

-- of the depths up to n the set has the fewest cycles at d, and more at each one before d
pub record IsFastestTo (set : ProgramSet) (n d : ℕ) : Type 0 where
  pub some : 1 ≤ d
  pub few : d ≤ n
  pub least : (k : ℕ) → 1 ≤ k → k ≤ n → cycles_at set d ≤ cycles_at set k
  pub before : (k : ℕ) → 1 ≤ k → k < d → cycles_at set d < cycles_at set k

-- what was found at the depths 1 to n
pub record IsFoundTo (set : ProgramSet) (n : ℕ) (found : Depths) : Type 0 where
  pub many : length found.rests.items ≡ n
  pub lines : lines_of 1 found.rests.items ≡ flat_map (line_at set) (range_with_len 1 n)
  pub same : 1 ≤ n → IsSameTo set n found.same_from
  pub fastest : 1 ≤ n → IsFastestTo set n found.fastest_from
  pub fewest : 1 ≤ n → found.fewest ≡ cycles_at set found.fastest_from
  pub done : found.done_from ≡ find (λ d. is_done (outcome_at set d)) (range_with_len 1 n)
  pub cycle : option_map (λ (deadlock : ValueDeadlock). deadlock.depth) found.deadlock ≡ find (λ d. waits_for_values (at_depth set d) (rest_at set d)) (range_with_len 1 n)
  pub waits : ForSome found.deadlock (λ deadlock. deadlock.waits.items ≡ cycle_lines (at_depth set deadlock.depth) (rest_at set deadlock.depth))

-- What its cycles say of a set: they are those of its clock at each depth that it may have. Where none waits for
-- room once it is at rest at one of these, it has no more cycles at any greater depth, also beyond those that it
-- may have.
pub record AreItsCycles (set : ProgramSet) : Type 0 where
  pub counted : (d : ℕ) → 1 ≤ d → d ≤ 7 → HasCycles (at_depth set d) (cycles_at set d)
  pub no_longer : (d e m : ℕ) → 1 ≤ d → d ≤ 7 → d ≤ e → NoneBlocked (at_depth set d) (clock (at_depth set d) (cycles_at set d)) →
      HasCycles (at_depth set e) m → m ≤ cycles_at set d

-- what was found at all depths
abbrev pub AreDepths : ProgramSet → Depths → Type 0
AreDepths set found = IsFoundTo set 7 found
