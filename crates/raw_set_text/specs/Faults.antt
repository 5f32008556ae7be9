-- What is wrong with a line outside sections, and with a section as a whole, after what entries before it declare.
use Rattle.std.specs.Prelude.{ℕ, ◌+◌, ◌*◌, Bool, false, not, ◌&&◌, ◌||◌, ◌==◌, List, [], ◌∷◌, length, Option, Some, None, nat_lt, nat_le, sum_by, slice_index_or, if◌then◌else◌}
use Rattle.std.specs.Option.{is_some}
use Rattle.std.specs.List.{list_any, list_all, range_with_len}
use Rattle.std.specs.Str.{bytes_eq}
use Rattle.raw_grid.specs.declared.limits.TheConstants.{MAX_SIZE}
use Rattle.raw_grid.specs.declared.parts.PortPlace.{PortPlace}
use Rattle.raw_grid.specs.Topology.{neighbour}
use Rattle.raw_model.specs.declared.limits.TheConstants.{MAX_STEPS, MAX_DEPTH, MAX_ALL_CODE, MAX_ALL_SWITCH_CODE, MAX_ALL_CELLS, MAX_ALL_MISSES, MAX_ALL_WORDS, MAX_CAPACITY, MAX_ALL_CAPACITIES, MAX_SHOWS, MAX_ALL_SHOWN}
use Rattle.raw_model.specs.Program.{memory_size}
use Rattle.raw_set_text.specs.declared.kind.SetKind.{SetKind}
use Rattle.raw_set_text.specs.declared.kind.SetKind.TheVariants.{Missing, BadLine, BadSize, OffGrid, PortOffEdge, DoublePort, UndeclaredEdge, Repeated, OverLimit}
use Rattle.raw_set_text.specs.declared.word.Word.{Word}
use Rattle.raw_set_text.specs.declared.word.Word.TheVariants as word
use Rattle.raw_set_text.specs.declared.declaration.Position.{Position}
use Rattle.raw_set_text.specs.Entry.{Entry, same_place}
use Rattle.raw_set_text.specs.Entry.Entry.{Grid, Limit, Depth, Port, Feed, Data, Misses, Show, Tile, Switch}
use Rattle.raw_set_text.specs.Forms.{word_name, line_entry}
use Rattle.raw_set_text.specs.Entries.{columns_of, rows_of, topology_of, places_of, sizes_of, limits_of, depths_of, codes_of, switches_of, given_at}

-- a number within these two
abbrev pub is_within : ℕ → ℕ → ℕ → Bool
is_within least most n = nat_le least n && nat_le n most

-- the columns or the rows are not 1 to 8
abbrev pub is_bad_size : Entry → Bool
is_bad_size (Grid columns rows) = not (is_within 1 MAX_SIZE columns && is_within 1 MAX_SIZE rows)
is_bad_size _ = false

-- the tile that an entry names
abbrev pub tile_in : Entry → Option Position
tile_in (Port place capacity) = Some (record { x = place.x; y = place.y })
tile_in (Feed place words) = Some (record { x = place.x; y = place.y })
tile_in (Data tile address words) = Some tile
tile_in (Misses tile turns) = Some tile
tile_in (Show tile address words) = Some tile
tile_in (Tile tile code) = Some tile
tile_in (Switch tile code) = Some tile
tile_in _ = None

-- a grid of so many columns and rows lacks this tile
abbrev pub is_outside : ℕ → ℕ → Option Position → Bool
is_outside columns rows None = false
is_outside columns rows (Some tile) = not (nat_lt tile.x columns && nat_lt tile.y rows)

-- the grid has no such tile
abbrev pub is_off_grid : List Entry → Entry → Bool
is_off_grid entries entry = is_outside (columns_of entries) (rows_of entries) (tile_in entry)

-- the tile has a neighbour on the side of the port
abbrev pub is_off_edge : List Entry → Entry → Bool
is_off_edge entries (Port place capacity) = is_some (neighbour (topology_of entries) place.x place.y place.side)
is_off_edge entries _ = false

-- an entry declares a port at this place
abbrev pub has_port : List Entry → PortPlace → Bool
has_port entries place = list_any (same_place place) (places_of entries)

abbrev pub is_double_port : List Entry → Entry → Bool
is_double_port entries (Port place capacity) = has_port entries place
is_double_port entries _ = false

-- no entry declares the source that is fed
abbrev pub is_undeclared : List Entry → Entry → Bool
is_undeclared entries (Feed place words) = not (has_port entries place)
is_undeclared entries _ = false

-- the number of a tile, as the grid numbers it
abbrev pub number_of_tile : List Entry → Position → ℕ
number_of_tile entries tile = tile.y * columns_of entries + tile.x

-- whether there are any
abbrev pub are_some : {A : Type 0} → List A → Bool
are_some xs = nat_lt 0 (length xs)

-- an entry says already what this one says: the grid, the limit, the depth, the program of the same processor, or
-- the word at one of the addresses
abbrev pub is_repeated : List Entry → Entry → Bool
is_repeated entries (Grid columns rows) = are_some (sizes_of entries)
is_repeated entries (Limit n) = are_some (limits_of entries)
is_repeated entries (Depth n) = are_some (depths_of entries)
is_repeated entries (Data tile address words) =
    list_any (λ i. are_some (given_at entries (number_of_tile entries tile) (address + 4 * i))) (range_with_len 0 (length words))
is_repeated entries (Tile tile code) = are_some (codes_of entries (number_of_tile entries tile))
is_repeated entries (Switch tile code) = are_some (switches_of entries (number_of_tile entries tile))
is_repeated entries _ = false

-- what an entry adds to the total of its kind: the capacity of a sink, words for sources, words in memories, numbers
-- of miss streams, shown words, instructions of tiles and of switches
abbrev pub capacity_in : Entry → ℕ
capacity_in (Port place capacity) = capacity
capacity_in _ = 0

abbrev pub fed_in : Entry → ℕ
fed_in (Feed place words) = length words
fed_in _ = 0

abbrev pub cells_in : Entry → ℕ
cells_in (Data tile address words) = length words
cells_in _ = 0

abbrev pub turns_in : Entry → ℕ
turns_in (Misses tile turns) = length turns
turns_in _ = 0

abbrev pub shows_in : Entry → ℕ
shows_in (Show tile address words) = 1
shows_in _ = 0

abbrev pub shown_in : Entry → ℕ
shown_in (Show tile address words) = words
shown_in _ = 0

abbrev pub instructions_in : Entry → ℕ
instructions_in (Tile tile code) = length code
instructions_in _ = 0

abbrev pub routed_in : Entry → ℕ
routed_in (Switch tile code) = length code
routed_in _ = 0

-- the entry brings its total past this most
abbrev pub is_past : (Entry → ℕ) → ℕ → List Entry → Entry → Bool
is_past adds most entries entry = nat_lt most (sum_by adds entries + adds entry)

-- a number or a total is outside its limits, or an address is past the memory
abbrev pub is_over_limit : List Entry → Entry → Bool
is_over_limit entries (Limit n) = not (is_within 1 MAX_STEPS n)
is_over_limit entries (Depth n) = not (is_within 1 MAX_DEPTH n)
is_over_limit entries (Port place capacity) = nat_lt MAX_CAPACITY capacity || is_past capacity_in MAX_ALL_CAPACITIES entries (Port place capacity)
is_over_limit entries (Feed place words) = is_past fed_in MAX_ALL_WORDS entries (Feed place words)
is_over_limit entries (Data tile address words) =
    nat_lt memory_size (address + 4 * length words) || is_past cells_in MAX_ALL_CELLS entries (Data tile address words)
is_over_limit entries (Misses tile turns) = not (list_all (λ n. nat_lt n 256) turns) || is_past turns_in MAX_ALL_MISSES entries (Misses tile turns)
is_over_limit entries (Show tile address words) =
    nat_lt memory_size (address + 4 * words) || is_past shows_in MAX_SHOWS entries (Show tile address words)
    || is_past shown_in MAX_ALL_SHOWN entries (Show tile address words)
is_over_limit entries (Tile tile code) = is_past instructions_in MAX_ALL_CODE entries (Tile tile code)
is_over_limit entries (Switch tile code) = is_past routed_in MAX_ALL_SWITCH_CODE entries (Switch tile code)
is_over_limit entries _ = false

-- this fault where the test holds, or else the next
abbrev pub fault_if : Bool → SetKind → Option SetKind → Option SetKind
fault_if test kind next = if test then Some kind else next

-- what is wrong with an entry behind these, in the order in which faults are told
unfoldable pub entry_fault : List Entry → Entry → Option SetKind
entry_fault entries entry =
    fault_if (is_bad_size entry) BadSize
    (fault_if (is_off_grid entries entry) OffGrid
    (fault_if (is_off_edge entries entry) PortOffEdge
    (fault_if (is_double_port entries entry) DoublePort
    (fault_if (is_undeclared entries entry) UndeclaredEdge
    (fault_if (is_repeated entries entry) Repeated
    (fault_if (is_over_limit entries entry) OverLimit None))))))

-- the word that the next line has to begin with: the first is the grid, and the second the limit
abbrev pub due_word : List Entry → Option Word
due_word [] = Some word.Grid
due_word (first ∷ []) = Some word.Limit
due_word (first ∷ second ∷ entries) = None

-- a line begins with another word than that
abbrev pub is_missing : Option Word → List (List ℕ) → Bool
is_missing None line = false
is_missing (Some word) line = not (bytes_eq (slice_index_or line 0 []) (word_name word))

-- the fault of what a line declares, or of a line of another form
abbrev pub form_fault : List Entry → Option Entry → Option SetKind
form_fault entries None = Some BadLine
form_fault entries (Some entry) = entry_fault entries entry

-- what is wrong with a line outside sections behind these entries
unfoldable pub line_fault : List Entry → List (List ℕ) → Option SetKind
line_fault entries line =
    if length line == 0 then None
    else (if is_missing (due_word entries) line then Some Missing
    else form_fault entries (line_entry line))
