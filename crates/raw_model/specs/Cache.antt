-- A tile's cache: which touches miss, what a cache holds after them, and the stall turns owed.
use Rattle.std.specs.Prelude.{◌≡◌, ℕ, ◌/◌, ◌%◌, ◌<◌, Bool, not, ◌&&◌, ◌||◌, ◌==◌, nat_le, nat_eq, Option, Some, List, [], ◌∷◌, map, reverse, take, length, sum, count_by, slice_get, slice_index, slice_index_or}
use Rattle.std.specs.List.{find, filter, list_any, before_first, range_with_len}
use Rattle.std.specs.Option.{option_eq}
use Rattle.raw_network.specs.Runs.{touches}
use Rattle.raw_model.specs.declared.limits.TheConstants.{CACHE_LINE, CACHE_SETS}
use Rattle.raw_model.specs.Program.{ProgramSet, TileProgram}
use Rattle.raw_model.specs.Machine.{machine_of}
use Rattle.raw_model.specs.Start.{MachineState}

-- the addresses that a tile touches in a list of steps from a state, in order
abbrev pub touches_of : ProgramSet → MachineState → List ℕ → ℕ → List ℕ
touches_of set s steps tile = touches (machine_of set) s steps tile

-- the line of an address
abbrev pub line_of : ℕ → ℕ
line_of address = address / CACHE_LINE

-- the set of a line
abbrev pub set_of : ℕ → ℕ
set_of line = line % CACHE_SETS

-- a line is of the set with this number
abbrev pub is_in_set : ℕ → ℕ → Bool
is_in_set number line = set_of line == number

-- the lines of these touches, that of the latest touch first
abbrev pub latest_lines : List ℕ → List ℕ
latest_lines touched = reverse (map line_of touched)

-- each of these lines once
abbrev pub without_repeats : List ℕ → List ℕ
without_repeats [] = []
without_repeats (line ∷ lines) = line ∷ filter (λ other. not (other == line)) (without_repeats lines)

-- the lines, without repeats, of an address's set other than its own line that are touched after the
-- latest touch of its own line
abbrev pub others : List ℕ → ℕ → List ℕ
others touched address =
    without_repeats (filter (is_in_set (set_of (line_of address))) (before_first (λ line. line == line_of address) (latest_lines touched)))

-- a touch of an address misses after these touches: none of them is of its line, or two or more other
-- lines of its set were touched since
unfoldable pub is_miss : List ℕ → ℕ → Bool
is_miss touched address =
    not (list_any (λ earlier. line_of earlier == line_of address) touched) || nat_le 2 (length (others touched address))

-- at how many places of a list of touches the touch misses after those before it
unfoldable pub misses : List ℕ → ℕ
misses touched =
    count_by (λ place. is_miss (take place touched) (slice_index touched place)) (range_with_len 0 (length touched))

-- the stall turns owed after so many misses: the sum of that many first numbers of the miss stream
abbrev pub turns : List ℕ → ℕ → ℕ
turns stream count = sum (take count stream)

-- the miss stream of a tile, and none where the tile is not there
abbrev pub stream_of : ProgramSet → ℕ → List ℕ
stream_of set tile = slice_index_or (map (λ (given : TileProgram). given.misses) set.tiles) tile []

-- the two lines that a cache holds of one set, the one touched last first
pub record HeldLines : Type 0 where
  pub first : Option ℕ
  pub second : Option ℕ

-- the line of the latest touch of a set, if there is one
abbrev pub first_line : List ℕ → ℕ → Option ℕ
first_line touched number = find (is_in_set number) (latest_lines touched)

-- the line of the latest touch of a set that is of another line than the first, if there is one
abbrev pub second_line : List ℕ → ℕ → Option ℕ
second_line touched number =
    find (λ line. is_in_set number line && not (option_eq nat_eq (Some line) (first_line touched number))) (latest_lines touched)

-- what a cache holds of a set after these touches
unfoldable pub held_after : List ℕ → ℕ → HeldLines
held_after touched number = record { first = first_line touched number; second = second_line touched number }

-- a cache, seen as what it holds of each set, stands for a list of touches: of each of its sets it
-- holds what is held after them
pub record StandsFor (cache : List HeldLines) (touched : List ℕ) : Type 0 where
  pub held : (number : ℕ) → number < CACHE_SETS → slice_get cache number ≡ Some (held_after touched number)
