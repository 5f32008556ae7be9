-- What is claimed of the path of a set.
use Rattle.std.specs.Prelude.{◌≡◌, ℕ, suc, ◌<◌, ◌≤◌, List, ◌∷◌, length, map, replicate}
use Rattle.std.specs.List.{flat_map}
use Rattle.raw_network.specs.Network.{count_of}
use Rattle.raw_lockstep.specs.Lockstep.{first_rounds}
use Rattle.raw_pace.specs.Path.{TurnOf, IsChain, next_turn}
use Rattle.raw_model.specs.Program.{ProgramSet}
use Rattle.raw_depth.specs.Depth.{at_depth}
use Rattle.raw_clock.specs.Clock.{clocked, first_clock}
use Rattle.raw_clock.specs.Laws.{IsTurnSchedule}
use Rattle.raw_steady.specs.Steady.{way_back}
use Rattle.raw_path.specs.declared.stretch.Stretch.{Stretch}
use Rattle.raw_path.specs.Path.{last_of, path_of, room_in}

-- the last turn of the path of a set of 1 + k cycles, and the whole path, the last turn first
abbrev pub last_turn : ProgramSet → ℕ → TurnOf
last_turn set k = next_turn (clocked set) (first_clock set) k (last_of set k)

abbrev pub whole_path : ProgramSet → ℕ → List TurnOf
whole_path set k = last_turn set k ∷ way_back set k (last_of set k)

-- the processors of all turns of these stretches
abbrev pub spread : List Stretch → List ℕ
spread ss = flat_map (λ (s : Stretch). replicate s.turns s.p) ss

-- no schedule of the turns of a set has this turn in fewer than n rounds
abbrev pub NotSooner : ProgramSet → TurnOf → ℕ → Type 0
NotSooner set t n = (rounds : List (List ℕ)) (k : ℕ) → IsTurnSchedule set rounds → t.before < count_of t.p (first_rounds k rounds) → n ≤ k

-- The path of a set of 1 + k cycles has one turn of each cycle, each of which needs the one before it; the stretches tell whose they are.
-- No schedule has its last turn in fewer rounds; and where none of its turns waited for room, neither with deeper wires, beyond the limit
-- of depths too.
pub record IsItsPath (set : ProgramSet) (k : ℕ) : Type 0 where
  pub chain : IsChain (clocked set) (first_clock set) (last_turn set k) (way_back set k (last_of set k))
  pub whole : length (whole_path set k) ≡ suc k
  pub turns : spread (path_of set (suc k)) ≡ map (λ (t : TurnOf). t.p) (whole_path set k)
  pub not_sooner : NotSooner set (last_turn set k) (suc k)
  pub deeper : room_in (path_of set (suc k)) ≡ 0 → (d : ℕ) → set.depth ≤ d → NotSooner (at_depth set d) (last_turn set k) (suc k)
