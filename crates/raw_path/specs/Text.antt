-- The text of the path of a set that has n cycles.
use Rattle.std.specs.Prelude.{ℕ, ◌-◌, ◌==◌, List, [], ◌++◌, length, reverse, codes, decimal, if◌then◌else◌}
use Rattle.std.specs.List.{flat_map, range_with_len}
use Rattle.raw_grid.specs.Topology.{proc_count}
use Rattle.raw_model.specs.Program.{ProgramSet}
use Rattle.raw_model.specs.Outcomes.{outcome}
use Rattle.raw_report.specs.Report.{outcome_lines}
use Rattle.raw_clock.specs.Clock.{machine_at, clock, program_steps}
use Rattle.raw_clock_text.specs.Lines.{cycles_line}
use Rattle.raw_path.specs.declared.stretch.Stretch.{Stretch}
use Rattle.raw_path.specs.declared.stretch.WaitedFor.{WaitedFor}
use Rattle.raw_path.specs.declared.stretch.WaitedFor.TheVariants.{Nothing, Value, Room}
use Rattle.raw_path.specs.Path.{path_of, stalls_of, values_in, room_in, turns_on}

-- what the path is made of: steps and stall turns; and its steps back, to an own turn and to those waited for
unfoldable pub path_line : ℕ → ℕ → ℕ → ℕ → ℕ → List ℕ
path_line fired stalled own values room =
    codes "path fired " ++ decimal fired
    ++ codes " stalled " ++ decimal stalled
    ++ codes " own " ++ decimal own
    ++ codes " values " ++ decimal values
    ++ codes " room " ++ decimal room ++ codes "\n"

-- how many turns of it processor p takes; nothing where none
unfoldable pub on_line : ℕ → ℕ → List ℕ
on_line p turns = if turns == 0 then [] else codes "on " ++ decimal p ++ codes " turns " ++ decimal turns ++ codes "\n"

-- what the first turn of a stretch waited for
abbrev pub wait_text : WaitedFor → List ℕ
wait_text Nothing = []
wait_text (Value w) = codes " value " ++ decimal w
wait_text (Room w) = codes " room " ++ decimal w

-- the line of a stretch
unfoldable pub from_line : Stretch → List ℕ
from_line s =
    codes "from " ++ decimal s.from
    ++ codes " turns " ++ decimal s.turns
    ++ codes " of " ++ decimal s.p
    ++ codes " pc " ++ decimal s.first
    ++ codes " to " ++ decimal s.last
    ++ wait_text s.wait ++ codes "\n"

-- the lines of the processors, of which there are so many, by rising number
unfoldable pub on_lines : ℕ → List Stretch → List ℕ
on_lines procs ss = flat_map (λ p. on_line p (turns_on p ss)) (range_with_len 0 procs)

-- the lines of the stretches, the first one first; in the list the last one is
unfoldable pub from_lines : List Stretch → List ℕ
from_lines ss = flat_map from_line (reverse ss)

-- the lines of the path of n cycles; nothing where there are none
unfoldable pub path_lines : ℕ → ℕ → ℕ → List Stretch → List ℕ
path_lines procs n stalled ss =
    if n == 0 then []
    else path_line (n - stalled) stalled (n - length ss) (values_in ss) (room_in ss) ++ on_lines procs ss ++ from_lines ss

-- the whole text; it begins as the report does
unfoldable pub path_text : ProgramSet → ℕ → List ℕ
path_text set n =
    outcome_lines set (machine_at (clock set n)) (outcome set (machine_at (clock set n)))
    ++ cycles_line n (program_steps set n) ++ path_lines (proc_count set.topo) n (stalls_of set n) (path_of set n)
