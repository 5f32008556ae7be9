-- The words of a memory, which a map has by their addresses divided by 4.
use Rattle.std.specs.Prelude.{ℕ, ◌+◌, ◌-◌, ◌*◌, ◌<◌, ◌&&◌, List, length, Option, Some, None, nat_le, nat_lt, slice_index, if◌then◌else◌}
use Rattle.std.specs.Option.{option_map}
use Rattle.std.specs.List.{All, filter_map, range_with_len}
use Rattle.std.specs.Ordering.{nat_cmp}
use Rattle.std.specs.BTreeMap.{BTreeMap, get, keys}
use Rattle.raw_model.specs.declared.program.DataWord.{DataWord}
use Rattle.raw_model.specs.declared.limits.TheConstants.{MEMORY_WORDS}

-- the word at a place of a memory, where one was given
abbrev pub word_of : BTreeMap ℕ ℕ → ℕ → Option ℕ
word_of memory i = get nat_cmp memory i

-- no word was given past the memory of a tile
abbrev pub IsInside : BTreeMap ℕ ℕ → Type 0
IsInside memory = All (λ place. place < MEMORY_WORDS) (keys memory)

-- the word at a place, of words that stand from another place on
abbrev pub word_from : ℕ → List ℕ → ℕ → Option ℕ
word_from first words i = if nat_le first i && nat_lt i (first + length words) then Some (slice_index words (i - first)) else None

-- the cell at a place of a memory, where it was given a word
abbrev pub cell_at : BTreeMap ℕ ℕ → ℕ → Option DataWord
cell_at memory i = option_map (λ word. record { address = 4 * i; word = word }) (word_of memory i)

-- the cells of a memory of so many words, by rising address
unfoldable pub cells_within : ℕ → BTreeMap ℕ ℕ → List DataWord
cells_within size memory = filter_map (cell_at memory) (range_with_len 0 size)
