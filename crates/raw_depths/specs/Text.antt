-- The text of a set at each depth: how it comes to rest there, from which depth on its reports are the same, at which one it is fastest,
-- and the verdict.
use Rattle.std.specs.Prelude.{ℕ, ◌+◌, ◌-◌, ◌==◌, ◌&&◌, nat_le, Bool, true, false, List, [], ◌∷◌, ◌++◌, codes, decimal, sum_by, unwrap_or}
use Rattle.std.specs.List.{find, flat_map, list_all, range_with_len}
use Rattle.raw_model.specs.declared.limits.TheConstants.{MAX_DEPTH}
use Rattle.raw_model.specs.Program.{ProgramSet}
use Rattle.raw_model.specs.Local.{Local, Tile, Switch}
use Rattle.raw_model.specs.Start.{MachineState}
use Rattle.raw_model.specs.Serial.{serial}
use Rattle.raw_model.specs.Outcomes.{Outcome, outcome}
use Rattle.raw_model.specs.Outcomes.Outcome.{Deadlock}
use Rattle.raw_model.specs.StateTexts.{wait_line, outcome_word}
use Rattle.raw_report.specs.Report.{report}
use Rattle.raw_depth.specs.Depth.{at_depth}
use Rattle.raw_steady.specs.Count.{cycle_count}
use Rattle.raw_depth.specs.Verdicts.{all_depths, rest_at, outcome_at, Verdict, verdict}
use Rattle.raw_depth.specs.Verdicts.Verdict.{DoneFrom, NeverDone, NotDone}

-- how many instructions a tile or a switch has executed; a port executes none
abbrev pub instructions_of : Local → ℕ
instructions_of (Tile l) = l.count
instructions_of (Switch l) = l.count
instructions_of _ = 0

-- how many steps all tiles and all switches have taken
unfoldable pub program_steps : MachineState → ℕ
program_steps s = sum_by instructions_of s.locals

-- the line of a depth, at which the set comes to rest with this word after so many steps and cycles
unfoldable pub depth_line : ℕ → List ℕ → ℕ → ℕ → List ℕ
depth_line d word steps cycles =
    codes "depth " ++ decimal d ++ codes " " ++ word ++ codes " steps " ++ decimal steps ++ codes " cycles " ++ decimal cycles ++ codes "\n"

-- how many cycles the set has at depth d
abbrev pub cycles_at : ProgramSet → ℕ → ℕ
cycles_at set d = cycle_count (at_depth set d)

-- the line of depth d of a set
abbrev pub line_at : ProgramSet → ℕ → List ℕ
line_at set d = depth_line d (outcome_word (outcome_at set d)) (program_steps (rest_at set d)) (cycles_at set d)

-- the lines of all depths
unfoldable pub depth_lines : ProgramSet → List ℕ
depth_lines set = flat_map (line_at set) all_depths

-- the report of a set at rest
unfoldable pub report_of_set : ProgramSet → List ℕ
report_of_set set = report set (serial set)

-- its report at depth d
abbrev pub report_at : ProgramSet → ℕ → List ℕ
report_at set d = report_of_set (at_depth set d)

-- two texts are the same
abbrev pub is_same_text : List ℕ → List ℕ → Bool
is_same_text [] [] = true
is_same_text (x ∷ xs) (y ∷ ys) = (x == y) && is_same_text xs ys
is_same_text _ _ = false

-- from depth d up to this one each has the report of depth d
abbrev pub is_same_from : ProgramSet → ℕ → ℕ → Bool
is_same_from set most d = list_all (λ k. is_same_text (report_at set k) (report_at set d)) (range_with_len d (most + 1 - d))

-- the least depth from which all greater ones have the same report
unfoldable pub same_from : ProgramSet → ℕ
same_from set = unwrap_or (find (is_same_from set MAX_DEPTH) all_depths) MAX_DEPTH

-- its line
unfoldable pub same_line : ℕ → List ℕ
same_line d = codes "same from " ++ decimal d ++ codes "\n"

-- at no depth the set has fewer cycles than at depth d
abbrev pub is_fastest : ProgramSet → ℕ → Bool
is_fastest set d = list_all (λ k. nat_le (cycles_at set d) (cycles_at set k)) all_depths

-- the least depth at which it has the fewest
unfoldable pub fastest_from : ProgramSet → ℕ
fastest_from set = unwrap_or (find (is_fastest set) all_depths) MAX_DEPTH

-- its line
unfoldable pub fastest_line : ℕ → List ℕ
fastest_line d = codes "fastest from " ++ decimal d ++ codes "\n"

-- the lines of the waits of a cycle
abbrev pub cycle_lines_of : ProgramSet → MachineState → Outcome → List ℕ
cycle_lines_of set s (Deadlock p ps) = flat_map (wait_line set s) (p ∷ ps)
cycle_lines_of set s _ = []

-- the lines of the waits of the cycle that the report shows, if it shows one
unfoldable pub cycle_lines : ProgramSet → MachineState → List ℕ
cycle_lines set s = cycle_lines_of set s (outcome set s)

-- the lines of a verdict: of one that the set is never done also the waits of the cycle that says so
unfoldable pub verdict_lines : ProgramSet → Verdict → List ℕ
verdict_lines set (DoneFrom d) = codes "done from " ++ decimal d ++ codes "\n"
verdict_lines set (NeverDone d) = codes "never done, deadlock from " ++ decimal d ++ codes "\n" ++ cycle_lines (at_depth set d) (rest_at set d)
verdict_lines set NotDone = codes "not done up to 7\n"

-- the whole text
unfoldable pub depths_text : ProgramSet → List ℕ
depths_text set = depth_lines set ++ same_line (same_from set) ++ fastest_line (fastest_from set) ++ verdict_lines set (verdict set)
