-- Two sets that differ in miss streams alone: what their reports of a list of steps share.
use Rattle.std.specs.Prelude.{◌≡◌, ℕ, List, ◌++◌}
use Rattle.std.specs.List.{flat_map}
use Rattle.raw_grid.specs.Topology.{Topology}
use Rattle.raw_grid.specs.Wires.{tiles_of}
use Rattle.raw_model.specs.Program.{ProgramSet}
use Rattle.raw_model.specs.MissStreams.{AreAlikeButMisses, RunsTheSame}
use Rattle.raw_report.specs.Lines.{stall_text}
use Rattle.raw_report.specs.Report.{report}

-- the stall line of each tile of a grid, where each missed so often and this cost so many turns
abbrev pub lines_of_stalls : Topology → (ℕ → ℕ) → (ℕ → ℕ) → List ℕ
lines_of_stalls topo missed turns = flat_map (λ tile. stall_text topo tile (missed tile) (turns tile)) (tiles_of topo)

-- two texts are one front part and behind it a stall line for each tile of the grid; in each of these lines they
-- show the same number of misses, and may differ in the number of turns
pub record AreEqualButTurns (topo : Topology) (first second : List ℕ) : Type 0 where
  pub front : List ℕ
  pub missed : ℕ → ℕ
  pub first_turns : ℕ → ℕ
  pub second_turns : ℕ → ℕ
  pub first_text : first ≡ front ++ lines_of_stalls topo missed first_turns
  pub second_text : second ≡ front ++ lines_of_stalls topo missed second_turns

-- A list of steps from the start does the same in two sets: it is lawful in both or in neither, and comes to rest
-- in both or in neither. It ends in one state, and each step takes, sends and touches the same. Its two reports are
-- equal but for the turns.
pub record DoesTheSame (a b : ProgramSet) (steps : List ℕ) : Type 0 where
  pub runs : RunsTheSame a b steps
  pub reports : AreEqualButTurns a.topo (report a steps) (report b steps)

-- where two sets are equal but for miss streams, each list of steps does the same in both
abbrev pub EachMissStreamOnlyDelays : Type 0
EachMissStreamOnlyDelays = (a b : ProgramSet) (steps : List ℕ) → AreAlikeButMisses a b → DoesTheSame a b steps
