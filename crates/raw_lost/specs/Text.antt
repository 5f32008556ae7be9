-- The text of the clock of a set that has n cycles, with its lost cycles.
use Rattle.std.specs.Prelude.{ℕ, ◌==◌, ◌&&◌, Bool, List, [], ◌++◌, codes, decimal, if◌then◌else◌}
use Rattle.std.specs.List.{flat_map, range_with_len}
use Rattle.raw_grid.specs.Topology.{proc_count}
use Rattle.raw_model.specs.Program.{ProgramSet}
use Rattle.raw_clock_text.specs.Text.{spending_text, waiting_text}
use Rattle.raw_lost.specs.declared.lost.Lost.{Lost}
use Rattle.raw_lost.specs.Lost.{lost_by}

-- no cycle was lost
abbrev pub is_none_lost : Lost → Bool
is_none_lost l = l.tiles == 0 && l.switches == 0 && l.ports == 0 && l.stalled == 0 && l.stopped == 0 && l.ring == 0

-- the lost cycles of processor p whose root took a step, and the others
unfoldable pub firing_part : ℕ → Lost → List ℕ
firing_part p l =
    codes "lost " ++ decimal p
    ++ codes " tiles " ++ decimal l.tiles
    ++ codes " switches " ++ decimal l.switches
    ++ codes " ports " ++ decimal l.ports

unfoldable pub resting_part : Lost → List ℕ
resting_part l =
    codes " stalled " ++ decimal l.stalled
    ++ codes " stopped " ++ decimal l.stopped
    ++ codes " ring " ++ decimal l.ring ++ codes "\n"

-- the line of processor p; nothing where it lost no cycle
abbrev pub lost_line : ℕ → Lost → List ℕ
lost_line p l = if is_none_lost l then [] else firing_part p l ++ resting_part l

-- the lines of all processors, by rising number
unfoldable pub lost_lines : ProgramSet → ℕ → List ℕ
lost_lines set n = flat_map (λ p. lost_line p (lost_by set n p)) (range_with_len 0 (proc_count set.topo))

-- the whole text: these lines stand between the two parts of the text of the clock
unfoldable pub lost_text : ProgramSet → ℕ → List ℕ
lost_text set n = spending_text set n ++ lost_lines set n ++ waiting_text set n
