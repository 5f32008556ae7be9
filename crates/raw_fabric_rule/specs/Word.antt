-- The status word: counts modulo PLACES, COUNT_BITS bits each, the first in the lowest bits. The words of the table: a status
-- word for each processor, and then PLACES data words for each wire. Each status word, and the first data word of each wire,
-- stands STRIDE words behind the one before; the words between are not used.
use Rattle.std.specs.Prelude.{ℕ, zero, suc, ◌+◌, ◌*◌, ◌/◌, ◌%◌, ◌^◌, List, [], ◌∷◌, slice_index}
use Rattle.raw_model.specs.Program.{ProgramSet}
use Rattle.raw_fabric_rule.specs.declared.layout.TheConstants.{STRIDE, PLACES, COUNT_BITS}
use Rattle.raw_fabric_rule.specs.ByEnds.{procs, wires}

-- the counts, modulo PLACES, as one word
abbrev pub pack : List ℕ → ℕ
pack [] = 0
pack (count ∷ counts) = count % PLACES + PLACES * pack counts

-- the count at an end, modulo PLACES
abbrev pub field : ℕ → ℕ → ℕ
field end word = word / 2 ^ (COUNT_BITS * end) % PLACES

-- the place of the status word of processor p in the table, and that of data word k of wire w, where there are so many processors
abbrev pub status_at : ℕ → ℕ
status_at p = STRIDE * p

abbrev pub data_at : ℕ → ℕ → ℕ → ℕ
data_at processors w k = STRIDE * (processors + w) + k

-- how many words the table has
abbrev pub word_count : ProgramSet → ℕ
word_count set = STRIDE * (procs set + wires set)

-- the status word of a processor
unfoldable pub status : List ℕ → ℕ → ℕ
status words p = slice_index words (status_at p)

-- data word k of a wire
unfoldable pub data_word : ProgramSet → List ℕ → ℕ → ℕ → ℕ
data_word set words w k = slice_index words (data_at (procs set) w k)

-- the values in the places t to t + n - 1, where that of place k stands in word k modulo PLACES
abbrev pub flight : (ℕ → ℕ) → ℕ → ℕ → List ℕ
flight word t zero = []
flight word t (suc n) = word (t % PLACES) ∷ flight word (suc t) n
