-- What is told of a state at rest: in one sentence how it came to rest, and the waits of the cycle or of the chain
-- that the outcome tells, in words and as a line.
use Rattle.std.specs.Prelude.{◌≡◌, ℕ, ◌+◌, ◌<◌, ◌==◌, Bool, true, false, Option, Some, None, List, [], ◌∷◌, ◌++◌, codes, decimal, length, ⊤}
use Rattle.std.specs.List.{list_any}
use Rattle.raw_cycle.specs.Chains.{stretch}
use Rattle.raw_cycle.specs.Cycles.{others_of}
use Rattle.raw_grid.specs.Topology.{Topology, proc_count}
use Rattle.raw_model.specs.Program.{ProgramSet}
use Rattle.raw_model.specs.Start.{MachineState}
use Rattle.raw_model.specs.Waits.{first_wait, waits_for}
use Rattle.raw_model.specs.Outcomes.{Outcome, outcome, chain, chain_end}
use Rattle.raw_model.specs.Outcomes.Outcome.{Done, Deadlock, Trapped, Limit, Stuck}
use Rattle.raw_model.specs.StateTexts.{mark_of}
use Rattle.raw_outcome.specs.declared.ends.Outcome.{Outcome as Answer}
use Rattle.raw_outcome.specs.declared.ends.Outcome.TheVariants as answer
use Rattle.raw_names.specs.Names.{processor_name}
use Rattle.raw_picture.specs.declared.course.Course.{Course}
use Rattle.raw_picture.specs.declared.told.Shape.{Shape}
use Rattle.raw_picture.specs.declared.told.Shape.TheVariants.{Nothing, Chain, Cycle}
use Rattle.raw_picture.specs.declared.told.Told.{Told}
use Rattle.raw_picture.specs.declared.told.Telling.{Telling}
use Rattle.raw_picture.specs.declared.told.Telling.TheVariants.{Sentences, Lines}
use Rattle.raw_picture.specs.Places.{along, wait_course}
use Rattle.raw_picture.specs.Names.{wait_text, after_first_word}

-- the sentence of an outcome; a trap's cause stands behind the first word of its processor's mark
unfoldable pub say : ProgramSet → MachineState → Outcome → List ℕ
say set s Done = codes "every tile and every switch is halted"
say set s (Deadlock p ps) = codes "a cycle of " ++ decimal (length ps + 1) ++ codes " processors, each waits for the next"
say set s (Trapped p) = processor_name set.topo p ++ codes " is trapped: " ++ after_first_word (mark_of set s p)
say set s (Limit p) = processor_name set.topo p ++ codes " has executed its limit of " ++ decimal set.limit
say set s (Stuck p) =
    codes "the waits from " ++ processor_name set.topo p ++ codes " end in " ++ processor_name set.topo (chain_end set s p)
    ++ codes ", " ++ mark_of set s (chain_end set s p)

-- the processors that an outcome tells, in order: those of the cycle, or those of the chain with its last one
abbrev pub told_by : ProgramSet → MachineState → Outcome → List ℕ
told_by set s (Deadlock p ps) = p ∷ ps
told_by set s (Stuck p) = chain set s p
told_by set s _ = []

unfoldable pub told_in : ProgramSet → MachineState → List ℕ
told_in set s = told_by set s (outcome set s)

-- whether a processor is told
unfoldable pub is_told : ProgramSet → MachineState → ℕ → Bool
is_told set s p = list_any (λ q. q == p) (told_in set s)

-- whether they stand on a cycle or in a chain, or none is told
abbrev pub shape_of : Outcome → Shape
shape_of (Deadlock p ps) = Cycle
shape_of (Stuck p) = Chain
shape_of _ = Nothing

-- the line of a wait, from the beginning of its course to its end
unfoldable pub segment : Course → List ℕ
segment course =
    decimal (along course 0).x ++ codes " " ++ decimal (along course 0).y ++ codes "L"
    ++ decimal (along course course.channel.length).x ++ codes " " ++ decimal (along course course.channel.length).y

-- what stands before the first wait, and before each other one
abbrev pub lead : Telling → Bool → List ℕ
lead Sentences true = codes ": "
lead Sentences false = codes "; "
lead Lines true = codes "M"
lead Lines false = codes "L"

-- the wait of processor p on wire v
abbrev pub drawn : Telling → Topology → ℕ → ℕ → List ℕ
drawn Sentences topo p v = wait_text topo p v
drawn Lines topo p v = segment (wait_course topo p v)

-- what is told of processor p, the first or another one; nothing where it waits for none, as the last of a chain
unfoldable pub wait_piece : Telling → Topology → Bool → ℕ → ℕ → List ℕ
wait_piece telling topo first p v = lead telling first ++ drawn telling topo p v

abbrev pub wait_told : Telling → Topology → Bool → ℕ → Option ℕ → List ℕ
wait_told telling topo first p None = []
wait_told telling topo first p (Some v) = wait_piece telling topo first p v

-- the waits of these processors, of which the first is the first that is told or not
abbrev pub waits_told : Telling → ProgramSet → MachineState → Bool → List ℕ → List ℕ
waits_told telling set s first [] = []
waits_told telling set s first (p ∷ ps) =
    wait_told telling set.topo first p (first_wait set s p) ++ waits_told telling set s false ps

-- the waits that are told
unfoldable pub all_waits : Telling → ProgramSet → MachineState → List ℕ
all_waits telling set s = waits_told telling set s true (told_in set s)

-- the description: the sentence of the outcome, and the waits that are told, in words
unfoldable pub description : ProgramSet → MachineState → List ℕ
description set s = codes "<desc>" ++ say set s (outcome set s) ++ all_waits Sentences set s ++ codes ".</desc>\n"

-- what stands before the line of the waits that are told
unfoldable pub path_start : List ℕ
path_start = codes "<path class=\"path\" d=\""

-- that line: that of a cycle is closed
abbrev pub path_by : Shape → List ℕ → List ℕ
path_by Nothing line = []
path_by Chain line = path_start ++ line ++ codes "\"/>\n"
path_by Cycle line = path_start ++ line ++ codes "Z\"/>\n"

unfoldable pub path : ProgramSet → MachineState → List ℕ
path set s = path_by (shape_of (outcome set s)) (all_waits Lines set s)

-- an answer names processors of the grid, and how many stand on its cycle
abbrev pub AnswerFits : ProgramSet → MachineState → Answer → Type 0
AnswerFits set s answer.Done = ⊤
AnswerFits set s (answer.Deadlock least count) = (least.0 < proc_count set.topo) × (length (others_of (waits_for set s) least.0 count) + 1 ≡ count)
AnswerFits set s (answer.Trapped p) = p.0 < proc_count set.topo
AnswerFits set s (answer.Limit p) = p.0 < proc_count set.topo
AnswerFits set s (answer.Stuck p) = p.0 < proc_count set.topo

-- so many processors from the first on, each the one that the one before it waits for, are those that are told
pub record AreTold (set : ProgramSet) (s : MachineState) (t : Told) : Type 0 where
  pub there : 0 < t.count → t.first.0 < proc_count set.topo
  pub same : stretch (waits_for set s) t.count (Some t.first.0) ≡ told_in set s
  pub shape : t.shape ≡ shape_of (outcome set s)
