-- Reading a trace: what its lines tell of the state before a cycle, found by copying. How a trace is made is not known here.
use Rattle.std.specs.Prelude.{ℕ, ◌+◌, Bool, true, false, ◌==◌, Option, Some, None, List, [], ◌∷◌, length, take, drop, sum, slice_get, if◌then◌else◌}
use Rattle.std.specs.List.{filter, flat_map, last_or}
use Rattle.raw_trace.specs.declared.entry.Entry.{Entry}
use Rattle.raw_trace.specs.declared.entry.Entry.TheVariants.{Count, Taken, Sent, Register, Stored, Misses, Missed}
use Rattle.raw_trace.specs.Lines.{Line, Begins, Stands, Cycle, Fires, Stalls, Waiting, Stopping}

-- a line that heads a cycle, and one that heads cycle k
abbrev pub is_heading : Line → Bool
is_heading (Cycle k) = true
is_heading _ = false

abbrev pub heads : ℕ → Line → Bool
heads k (Cycle j) = j == k
heads k _ = false

-- the lines before the heading of cycle k
abbrev pub lines_before : ℕ → List Line → List Line
lines_before k [] = []
lines_before k (line ∷ lines) = if heads k line then [] else line ∷ lines_before k lines

-- the lines up to the next heading
abbrev pub up_to_next : List Line → List Line
up_to_next [] = []
up_to_next (line ∷ lines) = if is_heading line then [] else line ∷ up_to_next lines

-- the lines of cycle k
abbrev pub lines_in : ℕ → List Line → List Line
lines_in k [] = []
lines_in k (line ∷ lines) = if heads k line then up_to_next lines else lines_in k lines

-- a line tells of processor p
abbrev pub tells_of : ℕ → Line → Bool
tells_of p (Begins first) = false
tells_of p (Stands q pc entries) = q == p
tells_of p (Cycle k) = false
tells_of p (Fires q pc entries) = q == p
tells_of p (Stalls q) = q == p
tells_of p (Waiting q wire) = q == p
tells_of p (Stopping q mark) = q == p

abbrev pub lines_of : ℕ → List Line → List Line
lines_of p lines = filter (tells_of p) lines

-- a line of a firing, and one of a wait or a stop
abbrev pub is_firing : Line → Bool
is_firing (Fires p pc entries) = true
is_firing _ = false

abbrev pub is_standstill : Line → Bool
is_standstill (Waiting p wire) = true
is_standstill (Stopping p mark) = true
is_standstill _ = false

-- the pc and the entries that a line tells
abbrev pub pc_told : Line → List ℕ
pc_told (Stands p pc entries) = pc ∷ []
pc_told (Fires p pc entries) = pc ∷ []
pc_told _ = []

abbrev pub entries_in : Line → List Entry
entries_in (Stands p pc entries) = entries
entries_in (Fires p pc entries) = entries
entries_in _ = []

-- what an entry tells: of register r, of the word at an address, of a value sent on wire w, of one taken from it, of steps,
-- of misses
abbrev pub register_told : ℕ → Entry → List ℕ
register_told r (Register register word) = if register == r then word ∷ [] else []
register_told r _ = []

abbrev pub word_told : ℕ → Entry → List ℕ
word_told address (Stored at word) = if at == address then word ∷ [] else []
word_told address _ = []

abbrev pub sent_told : ℕ → Entry → List ℕ
sent_told w (Sent wire word) = if wire == w then word ∷ [] else []
sent_told w _ = []

abbrev pub taken_told : ℕ → Entry → List ℕ
taken_told w (Taken wire) = if wire == w then wire ∷ [] else []
taken_told w _ = []

abbrev pub count_told : Entry → List ℕ
count_told (Count count) = count ∷ []
count_told _ = []

abbrev pub misses_told : Entry → List ℕ
misses_told (Misses count) = count ∷ []
misses_told (Missed turns) = 1 ∷ []
misses_told _ = []

-- what all entries of lines tell
abbrev pub told : (Entry → List ℕ) → List Line → List ℕ
told tell lines = flat_map tell (flat_map entries_in lines)

-- the last of these words, and `first` where there are none
abbrev pub last_word : ℕ → List ℕ → ℕ
last_word first [] = first
last_word first (word ∷ words) = last_word word words

-- The state before a cycle, from the lines before it. Of processor p: its pc is the last one told, else 0;
abbrev pub read_pc : ℕ → List Line → ℕ
read_pc p lines = last_word 0 (flat_map pc_told (lines_of p lines))

-- register r holds the last word told of it, else 0;
abbrev pub read_register : ℕ → ℕ → List Line → ℕ
read_register p r lines = last_word 0 (told (register_told r) (lines_of p lines))

-- the word at an address is the last one told, else the one that the set gives;
abbrev pub read_word : ℕ → ℕ → ℕ → List Line → ℕ
read_word given p address lines = last_word given (told (word_told address) (lines_of p lines))

-- it has taken the steps that are counted, and one for each firing,
abbrev pub read_count : ℕ → List Line → ℕ
read_count p lines = sum (told count_told (lines_of p lines)) + length (filter is_firing (lines_of p lines))

-- and missed as often as is counted, and once for each miss.
abbrev pub read_misses : ℕ → List Line → ℕ
read_misses p lines = sum (told misses_told (lines_of p lines))

-- Wire w: all values told, but for as many in front as were taken; those are what its consumer got.
abbrev pub taken_from : ℕ → List Line → ℕ
taken_from w lines = length (told (taken_told w) lines)

abbrev pub read_wire : ℕ → List Line → List ℕ
read_wire w lines = drop (taken_from w lines) (told (sent_told w) lines)

abbrev pub read_got : ℕ → List Line → List ℕ
read_got w lines = take (taken_from w lines) (told (sent_told w) lines)

-- The turn of processor p in cycle k is told by its line there, else by its last line of a wait or a stop.
abbrev pub either_line : Option Line → Option Line → Option Line
either_line None before = before
either_line (Some line) before = Some line

abbrev pub read_turn : ℕ → ℕ → List Line → Option Line
read_turn p k lines =
    either_line (slice_get (lines_of p (lines_in k lines)) 0)
    (last_or None (filter is_standstill (lines_of p (lines_before k lines))))
