-- What is claimed of the reading of a trace.
use Rattle.std.specs.Prelude.{◌≡◌, ℕ, ◌+◌, ◌*◌, ◌<◌, ◌≤◌, Option, Some, List, ◌++◌, length, slice_get, slice_index}
use Rattle.raw_network.specs.Network.{values_on}
use Rattle.raw_grid.specs.declared.parts.ProcKind.TheVariants as proc
use Rattle.raw_grid.specs.Topology.{kind_at}
use Rattle.raw_grid.specs.Wires.{wires_of, consumer_of}
use Rattle.raw_model.specs.declared.limits.TheConstants.{MEMORY_WORDS}
use Rattle.raw_model.specs.Program.{ProgramSet}
use Rattle.raw_model.specs.Local.{Local, Sink}
use Rattle.raw_model.specs.TileTable.{word_at}
use Rattle.raw_model.specs.Start.{start}
use Rattle.raw_model.specs.Cache.{misses}
use Rattle.raw_model.specs.Parts.{memory_of, count_in, got_of}
use Rattle.raw_lockstep.specs.Stalls.{touched_by}
use Rattle.raw_clock.specs.Clock.{machine_at, clock, turn_in}
use Rattle.raw_trace.specs.Parts.{pc_of, regs_of}
use Rattle.raw_trace.specs.Lines.{Line, positions, turn_line}
use Rattle.raw_trace.specs.Reading.{read_pc, read_register, read_word, read_count, read_misses, read_wire, read_got, read_turn}

-- the local state of processor p before cycle k
abbrev pub local_at : ProgramSet → ℕ → ℕ → Option Local
local_at set k p = slice_get (machine_at (clock set k)).locals p

-- its memory at the start
abbrev pub given_memory : ProgramSet → ℕ → List ℕ
given_memory set p = memory_of (slice_get (start set).locals p)

-- k is a position of the trace of a set with n cycles from cycle `first` to before `past`
pub record IsPosition (n first past k : ℕ) : Type 0 where
  pub later : first ≤ k
  pub within : k < first + positions n first past

-- these lines, those before cycle k, tell what processor p is in the state before cycle k
pub record IsRead (set : ProgramSet) (k p : ℕ) (lines : List Line) : Type 0 where
  pub pc : read_pc p lines ≡ pc_of (local_at set k p)
  pub registers : (r : ℕ) → read_register p r lines ≡ slice_index (regs_of (local_at set k p)) r
  pub memory : (i : ℕ) → i < MEMORY_WORDS →
      read_word (word_at (given_memory set p) (4 * i)) p (4 * i) lines ≡ word_at (memory_of (local_at set k p)) (4 * i)
  pub count : read_count p lines ≡ count_in (local_at set k p)
  pub missed : read_misses p lines ≡ misses (touched_by (clock set k) p)

-- the lines of a trace tell the values of each wire
abbrev pub AreWiresRead : ProgramSet → ℕ → List Line → Type 0
AreWiresRead set k lines =
    (w : ℕ) → w < length (wires_of set.topo) → read_wire w lines ≡ values_on (machine_at (clock set k)).wires w

-- the lines of a trace tell what a sink got since its first cycle, on the wire that leads to it
abbrev pub IsGotRead : ProgramSet → ℕ → ℕ → List Line → Type 0
IsGotRead set first k lines =
    (p w : ℕ) → w < length (wires_of set.topo) → kind_at set.topo p ≡ Some proc.Sink → consumer_of set.topo w ≡ p →
    got_of (local_at set first p) ++ read_got w lines ≡ got_of (local_at set k p)

-- the lines tell the turn of processor p in cycle k
abbrev pub IsTurnRead : ProgramSet → ℕ → ℕ → List Line → Type 0
IsTurnRead set k p lines = read_turn p k lines ≡ Some (turn_line set (clock set k) p (turn_in set (clock set k) p))
