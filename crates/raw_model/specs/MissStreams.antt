-- Two sets that differ in miss streams alone: what a list of steps does in both, and what a state is in both.
use Rattle.std.specs.Prelude.{◌≡◌, ◌↔◌, ℕ, List, [], map}
use Rattle.raw_model.specs.Program.{ProgramSet, TileProgram}
use Rattle.raw_model.specs.Start.{MachineState, start}
use Rattle.raw_model.specs.Rest.{stopped, end, event, IsLawful, IsRun, passed_on}
use Rattle.raw_model.specs.Cache.{touches_of}
use Rattle.raw_model.specs.Waits.{first_wait, waits_for}
use Rattle.raw_model.specs.Outcomes.{outcome}
use Rattle.raw_model.specs.StateTexts.{mark_of, wait_line}

-- what a tile is given, but for its miss stream, which is empty
abbrev pub without_stream : TileProgram → TileProgram
without_stream tile = record tile { misses = [] }

-- a set in which the miss stream of each tile is empty, and all else as before
abbrev pub without_misses : ProgramSet → ProgramSet
without_misses set = record set { tiles = map without_stream set.tiles }

-- two sets are equal but for the miss streams of their tiles
abbrev pub AreAlikeButMisses : ProgramSet → ProgramSet → Type 0
AreAlikeButMisses a b = without_misses a ≡ without_misses b

-- a list of steps from the start does the same in two sets: it is lawful in both or in neither, comes to rest in
-- both or in neither, ends in one state, and each step takes, sends and touches the same; so the values passed on
-- each wire and the addresses touched at each tile are the same
pub record RunsTheSame (a b : ProgramSet) (steps : List ℕ) : Type 0 where
  pub same_lawful : IsLawful a steps ↔ IsLawful b steps
  pub same_rest : IsRun a steps ↔ IsRun b steps
  pub same_end : end a steps ≡ end b steps
  pub same_events : (i : ℕ) → event a (start a) steps i ≡ event b (start b) steps i
  pub same_passed : (wire : ℕ) → passed_on a (start a) steps wire ≡ passed_on b (start b) steps wire
  pub same_touches : (tile : ℕ) → touches_of a (start a) steps tile ≡ touches_of b (start b) steps tile

-- a state is the same in two sets: who is stopped, who waits for what and for whom, how it came to rest, and what
-- is shown of each processor
pub record RestsTheSame (a b : ProgramSet) (s : MachineState) : Type 0 where
  pub same_stopped : (p : ℕ) → stopped a s p ≡ stopped b s p
  pub same_first_wait : (p : ℕ) → first_wait a s p ≡ first_wait b s p
  pub same_waits_for : (p : ℕ) → waits_for a s p ≡ waits_for b s p
  pub same_outcome : outcome a s ≡ outcome b s
  pub same_mark : (p : ℕ) → mark_of a s p ≡ mark_of b s p
  pub same_wait_line : (p : ℕ) → wait_line a s p ≡ wait_line b s p
