-- What the line of a state tells.
use Rattle.std.specs.Prelude.{ℕ, ◌*◌, ◌==◌, Option, Some, List, [], ◌∷◌, ◌++◌, length, map, slice_get, slice_index, if◌then◌else◌}
use Rattle.std.specs.List.{flat_map, range_with_len}
use Rattle.raw_network.specs.Network.{values_on}
use Rattle.raw_grid.specs.Wires.{wires_of, producer_of}
use Rattle.raw_model.specs.declared.limits.TheConstants.{MEMORY_WORDS}
use Rattle.raw_model.specs.Program.{ProgramSet}
use Rattle.raw_model.specs.Local.{Local, Tile}
use Rattle.raw_model.specs.TileTable.{word_at}
use Rattle.raw_model.specs.Start.{MachineState, start}
use Rattle.raw_model.specs.Parts.{memory_of, count_in}
use Rattle.raw_trace.specs.declared.entry.Entry.{Entry}
use Rattle.raw_trace.specs.declared.entry.Entry.TheVariants as entry
use Rattle.raw_trace.specs.Parts.{regs_of}

-- how many steps were taken, where some were
abbrev pub count_entries : ℕ → List Entry
count_entries count = if count == 0 then [] else entry.Count count ∷ []

-- the values on a wire, the front one first, where processor p sends there
abbrev pub held_entries : ProgramSet → MachineState → ℕ → ℕ → List Entry
held_entries set s p w = if producer_of set.topo w == p then map (entry.Sent w) (values_on s.wires w) else []

-- a register, where it is not 0
abbrev pub register_entry : List ℕ → ℕ → List Entry
register_entry regs register =
    if slice_index regs register == 0 then [] else entry.Register register (slice_index regs register) ∷ []

-- the word number i of a memory, where it is not that of the memory at the start
abbrev pub word_entry : List ℕ → List ℕ → ℕ → List Entry
word_entry given memory i =
    if word_at memory (4 * i) == word_at given (4 * i) then [] else entry.Stored (4 * i) (word_at memory (4 * i)) ∷ []

-- the words of a tile that are not those of its memory at the start
abbrev pub memory_entries : List ℕ → Option Local → List Entry
memory_entries given (Some (Tile l)) = flat_map (word_entry given l.memory) (range_with_len 0 MEMORY_WORDS)
memory_entries given _ = []

-- how often a tile missed, where it did
abbrev pub misses_entries : ℕ → List Entry
misses_entries missed = if missed == 0 then [] else entry.Misses missed ∷ []

-- what is told of processor p in a state, where it has missed so often
unfoldable pub state_entries : ProgramSet → MachineState → ℕ → ℕ → List Entry
state_entries set s p missed =
    count_entries (count_in (slice_get s.locals p))
    ++ (flat_map (held_entries set s p) (range_with_len 0 (length (wires_of set.topo)))
    ++ (flat_map (register_entry (regs_of (slice_get s.locals p))) (range_with_len 0 (length (regs_of (slice_get s.locals p))))
    ++ (memory_entries (memory_of (slice_get (start set).locals p)) (slice_get s.locals p)
    ++ misses_entries missed)))
