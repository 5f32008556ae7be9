-- What is seen of a state at rest at the places of a claim: the words there, and whether each sink has as many words as are claimed of it.
use Rattle.std.specs.Prelude.{ℕ, ◌+◌, ◌*◌, Bool, false, ◌==◌, nat_lt, Option, Some, None, List, [], ◌∷◌, length, map, slice_get, slice_index, if◌then◌else◌}
use Rattle.std.specs.Option.{option_or}
use Rattle.std.specs.List.{count_by}
use Rattle.raw_model.specs.declared.limits.TheConstants.{MEMORY_WORDS}
use Rattle.raw_model.specs.Local.{Local, Tile, Switch, Source, Sink}
use Rattle.raw_model.specs.Start.{MachineState}
use Rattle.raw_model.specs.Parts.{memory_of, got_of, received}
use Rattle.raw_model.specs.TileTable.{word_at}
use Rattle.raw_term.specs.declared.place.Place.{Place}
use Rattle.raw_term.specs.declared.place.Place.TheVariants.{Received, Memory}

-- a place is among the words of this sink
abbrev pub is_of : ℕ → Place → Bool
is_of p (Received sink number) = sink.0 == p
is_of p (Memory tile number) = false

-- how many of the places are: as many words are claimed of the sink
abbrev pub claimed_of : List Place → ℕ → ℕ
claimed_of places p = count_by (is_of p) places

-- how many words a sink has received and how many are claimed of it, where these numbers differ
abbrev pub miscount_of : Local → ℕ → Option (ℕ × ℕ)
miscount_of (Sink l) claimed = if length l.got == claimed then None else Some (length l.got, claimed)
miscount_of (Tile l) claimed = None
miscount_of (Switch l) claimed = None
miscount_of (Source l) claimed = None

-- the same of the first sink of which they differ, of these processors, whose numbers begin with p
abbrev pub miscount_from : List Place → ℕ → List Local → Option (ℕ × ℕ)
miscount_from places p [] = None
miscount_from places p (l ∷ locals) = option_or (miscount_of l (claimed_of places p)) (miscount_from places (p + 1) locals)

-- of all processors; where no places are named, nothing is claimed of a single sink
abbrev pub miscount : List Place → List Local → Option (ℕ × ℕ)
miscount places locals = if length places == 0 then None else miscount_from places 0 locals

-- the word at a place, by how the words of a memory are read; 0 where there is none
abbrev pub word_seen : (List ℕ → ℕ → ℕ) → List Local → Place → ℕ
word_seen word_of locals (Received sink number) = slice_index (got_of (slice_get locals sink.0)) number
word_seen word_of locals (Memory tile number) = if nat_lt number MEMORY_WORDS then word_of (memory_of (slice_get locals tile.0)) number else 0

-- the words at all places; where none are named, those that all sinks have received, those of the first port first
abbrev pub seen_by : (List ℕ → ℕ → ℕ) → List Place → MachineState → List ℕ
seen_by word_of places s = if length places == 0 then received s else map (word_seen word_of s.locals) places

-- a word of a memory of bytes, by its number
abbrev pub word_of_bytes : List ℕ → ℕ → ℕ
word_of_bytes memory number = word_at memory (4 * number)

-- of a state of the machine
abbrev pub seen : List Place → MachineState → List ℕ
seen places s = seen_by word_of_bytes places s

-- of a state with terms, whose memories are lists of terms
abbrev pub terms_seen : List Place → MachineState → List ℕ
terms_seen places s = seen_by slice_index places s
