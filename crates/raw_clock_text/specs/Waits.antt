-- The lines of waits, by the counts of a tally.
use Rattle.std.specs.Prelude.{ℕ, Option, Some, None, List, [], slice_index}
use Rattle.raw_grid.specs.Topology.{Topology}
use Rattle.raw_model.specs.Waits.{other_end}
use Rattle.raw_clock_text.specs.Lines.{wait_line}

-- the line of the waits of processor p for a wire, where it is there
abbrev pub waits_at : Topology → ℕ → List ℕ → Option ℕ → List ℕ
waits_at topo p waits None = []
waits_at topo p waits (Some w) = wait_line p w (other_end topo p w) (slice_index waits w)
