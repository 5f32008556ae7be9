-- What is kept of the first cycles of a run.
use Rattle.std.specs.Prelude.{◌≡◌, ℕ, ◌-◌, ◌<◌, Bool, true, false, ◌==◌, List, [], length, slice_get, Some}
use Rattle.raw_grid.specs.Topology.{proc_count}
use Rattle.raw_grid.specs.Wires.{wires_of}
use Rattle.raw_model.specs.Program.{ProgramSet}
use Rattle.raw_serial.specs.declared.turn.Turn.{Turn}
use Rattle.raw_clock.specs.Clock.{clock, turn_in, passed_in}
use Rattle.raw_trace.specs.Reading.{last_word}
use Rattle.raw_trace.specs.Whole.{one_more, pieces, same_turn, turns_of, distances, sending, turn_pieces, distance_pieces}
use Rattle.raw_whole.specs.declared.turns.Turns.{Turns}
use Rattle.raw_whole.specs.declared.sends.Sends.{Sends}
use Rattle.raw_whole.specs.declared.gathering.Whole.{Whole}

-- these are the pieces of the turns of processor p in the first cycles
abbrev pub IsTurnsKept : ProgramSet → ℕ → ℕ → Turns → Type 0
IsTurnsKept set cycles p kept = kept.pieces.items ≡ pieces same_turn (turns_of set p cycles)

-- the same of each processor
pub record AreTurnsKept (set : ProgramSet) (cycles : ℕ) (all : List Turns) : Type 0 where
  pub each : length all ≡ proc_count set.topo
  pub kept : (p : ℕ) (kept : Turns) → slice_get all p ≡ Some kept → IsTurnsKept set cycles p kept

-- so many processors, of which no turn is kept
pub record AreNoTurns (procs : ℕ) (all : List Turns) : Type 0 where
  pub each : length all ≡ procs
  pub none : (p : ℕ) (kept : Turns) → slice_get all p ≡ Some kept → kept.pieces.items ≡ []

-- these are the turns of the processors in the cycle after so many
abbrev pub AreTurnsIn : ProgramSet → ℕ → List Turn → Type 0
AreTurnsIn set cycles turns = (p : ℕ) → p < proc_count set.topo → slice_get turns p ≡ Some (turn_in set (clock set cycles) p)

-- these are the pieces of the distances of the first cycles in which a value is sent on wire w, with the last of them, and
-- so many values are sent in them
pub record IsSendsKept (set : ProgramSet) (cycles w : ℕ) (kept : Sends) : Type 0 where
  pub pieces : kept.pieces.items ≡ pieces (λ a b. a == b) (distances (sending set w cycles))
  pub last : kept.last ≡ last_word 0 (sending set w cycles)
  pub passed : kept.passed ≡ passed_in set cycles w

-- the same of each wire
pub record AreSendsKept (set : ProgramSet) (cycles : ℕ) (all : List Sends) : Type 0 where
  pub each : length all ≡ length (wires_of set.topo)
  pub kept : (w : ℕ) (kept : Sends) → slice_get all w ≡ Some kept → IsSendsKept set cycles w kept

-- so many wires, of which no cycle is kept
pub record AreNoSends (wires : ℕ) (all : List Sends) : Type 0 where
  pub each : length all ≡ wires
  pub none : (w : ℕ) (kept : Sends) → slice_get all w ≡ Some kept → kept.pieces.items ≡ []
  pub last : (w : ℕ) (kept : Sends) → slice_get all w ≡ Some kept → kept.last ≡ 0
  pub passed : (w : ℕ) (kept : Sends) → slice_get all w ≡ Some kept → kept.passed ≡ 0

-- a cycle in which a value is sent is noted, behind which so many were
pub record IsNotedMore (k many : ℕ) (old new : Sends) : Type 0 where
  pub pieces : new.pieces.items ≡ one_more (λ a b. a == b) old.pieces.items (k - old.last)
  pub last : new.last ≡ k
  pub passed : new.passed ≡ many

-- where none is, nothing changes
abbrev pub IsNoted : Bool → ℕ → ℕ → Sends → Sends → Type 0
IsNoted true k many old new = new ≡ old
IsNoted false k many old new = IsNotedMore k many old new

-- the turns and the sends of the whole run of a set that has n cycles
pub record IsWhole (set : ProgramSet) (n : ℕ) (whole : Whole) : Type 0 where
  pub each : length whole.turns.items ≡ proc_count set.topo
  pub turns : (p : ℕ) (kept : Turns) → slice_get whole.turns.items p ≡ Some kept → kept.pieces.items ≡ turn_pieces set n p
  pub each_wire : length whole.sends.items ≡ length (wires_of set.topo)
  pub sends : (w : ℕ) (kept : Sends) → slice_get whole.sends.items w ≡ Some kept → kept.pieces.items ≡ distance_pieces set n w
