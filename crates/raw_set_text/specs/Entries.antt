-- The set that entries declare together.
use Rattle.std.specs.Prelude.{ℕ, ◌+◌, ◌-◌, ◌*◌, ◌/◌, Bool, ◌&&◌, ◌==◌, List, [], length, map, Option, Some, None, nat_lt, nat_le, slice_get, slice_index, slice_index_or, if◌then◌else◌}
use Rattle.std.specs.Option.{option_map}
use Rattle.std.specs.List.{filter_map, flat_map, range_with_len}
use Rattle.raw_tile_isa.specs.Instruction.{Instruction}
use Rattle.raw_switch_isa.specs.Instruction.{SwitchInstruction}
use Rattle.raw_grid.specs.declared.parts.PortPlace.{PortPlace}
use Rattle.raw_grid.specs.Topology.{Topology, tile_count}
use Rattle.raw_model.specs.declared.limits.TheConstants.{MEMORY_WORDS, DEFAULT_DEPTH}
use Rattle.raw_model.specs.declared.program.DataWord.{DataWord}
use Rattle.raw_model.specs.declared.program.Show.{Show as Shown}
use Rattle.raw_model.specs.Program.{ProgramSet, TileProgram, PortProgram}
use Rattle.raw_set_text.specs.declared.declaration.Position.{Position}
use Rattle.raw_set_text.specs.Entry.{Entry, same_place}
use Rattle.raw_set_text.specs.Entry.Entry.{Grid, Limit, Depth, Port, Feed, Data, Misses, Show, Tile, Switch}

-- the first of these, or that one where there is none
abbrev pub first_or : {A : Type 0} → A → List A → A
first_or other xs = slice_index_or xs 0 other

-- the columns and rows that an entry declares
abbrev pub size_in : Entry → Option (ℕ × ℕ)
size_in (Grid columns rows) = Some (columns, rows)
size_in _ = None

abbrev pub limit_in : Entry → Option ℕ
limit_in (Limit n) = Some n
limit_in _ = None

abbrev pub depth_in : Entry → Option ℕ
depth_in (Depth n) = Some n
depth_in _ = None

-- the place of the port that an entry declares
abbrev pub place_in : Entry → Option PortPlace
place_in (Port place capacity) = Some place
place_in _ = None

-- the words that an entry gives the source at a place
abbrev pub words_in : PortPlace → Entry → List ℕ
words_in place (Feed source words) = if same_place place source then words else []
words_in _ _ = []

-- the grids, limits and depths that entries declare
abbrev pub sizes_of : List Entry → List (ℕ × ℕ)
sizes_of entries = filter_map size_in entries

abbrev pub limits_of : List Entry → List ℕ
limits_of entries = filter_map limit_in entries

abbrev pub depths_of : List Entry → List ℕ
depths_of entries = filter_map depth_in entries

-- the ports' places in the order of the entries
abbrev pub places_of : List Entry → List PortPlace
places_of entries = filter_map place_in entries

-- the number of columns, and that of rows
abbrev pub columns_of : List Entry → ℕ
columns_of entries = (first_or (0, 0) (sizes_of entries)).0

abbrev pub rows_of : List Entry → ℕ
rows_of entries = (first_or (0, 0) (sizes_of entries)).1

-- the grid and its ports
unfoldable pub topology_of : List Entry → Topology
topology_of entries = record { cols = columns_of entries; rows = rows_of entries; places = places_of entries }

-- the words that a source at a place is fed, in the order of the entries
abbrev pub words_of : List Entry → PortPlace → List ℕ
words_of entries place = flat_map (words_in place) entries

-- what the port that an entry declares is given by all entries
abbrev pub port_in : List Entry → Entry → Option PortProgram
port_in entries (Port place capacity) = Some (record { words = words_of entries place; capacity = capacity })
port_in entries _ = None

-- what each port is given
unfoldable pub ports_of : List Entry → List PortProgram
ports_of entries = filter_map (port_in entries) entries

-- a position is that of tile t, where there are so many columns
abbrev pub is_tile : ℕ → ℕ → Position → Bool
is_tile columns t tile = tile.y * columns + tile.x == t

-- the program of tile t that an entry declares, and that of its switch
abbrev pub code_in : ℕ → ℕ → Entry → Option (List Instruction)
code_in columns t (Tile tile code) = if is_tile columns t tile then Some code else None
code_in columns t _ = None

abbrev pub switch_in : ℕ → ℕ → Entry → Option (List SwitchInstruction)
switch_in columns t (Switch tile code) = if is_tile columns t tile then Some code else None
switch_in columns t _ = None

-- the word at an address of so many words from another address on, both multiples of 4
abbrev pub word_at : ℕ → ℕ → List ℕ → Option ℕ
word_at address start words = if nat_le start address && nat_lt address (start + 4 * length words) then Some (slice_index words ((address - start) / 4)) else None

-- the word at an address of tile t that an entry declares
abbrev pub word_in : ℕ → ℕ → ℕ → Entry → Option ℕ
word_in columns t address (Data tile start words) = if is_tile columns t tile then word_at address start words else None
word_in columns t address _ = None

-- the numbers that an entry adds to the miss stream of tile t
abbrev pub misses_in : ℕ → ℕ → Entry → List ℕ
misses_in columns t (Misses tile turns) = if is_tile columns t tile then turns else []
misses_in columns t _ = []

-- the programs that entries declare for tile t and for its switch, and their words for an address of it
abbrev pub codes_of : List Entry → ℕ → List (List Instruction)
codes_of entries t = filter_map (code_in (columns_of entries) t) entries

abbrev pub switches_of : List Entry → ℕ → List (List SwitchInstruction)
switches_of entries t = filter_map (switch_in (columns_of entries) t) entries

abbrev pub given_at : List Entry → ℕ → ℕ → List ℕ
given_at entries t address = filter_map (word_in (columns_of entries) t address) entries

-- the cell at an address of tile t, where an entry gives it a word
abbrev pub cell_of : List Entry → ℕ → ℕ → Option DataWord
cell_of entries t address = option_map (λ word. record { address = address; word = word }) (slice_get (given_at entries t address) 0)

-- the addresses of the words of a memory, in rising order
abbrev pub addresses : List ℕ
addresses = map (λ i. 4 * i) (range_with_len 0 MEMORY_WORDS)

-- what tile t is given; the words of its memory stand by rising address
unfoldable pub tile_of : List Entry → ℕ → TileProgram
tile_of entries t = record {
  code = first_or [] (codes_of entries t);
  switch = first_or [] (switches_of entries t);
  cells = filter_map (cell_of entries t) addresses;
  misses = flat_map (misses_in (columns_of entries) t) entries;
}

-- what each tile is given
unfoldable pub tiles_of : List Entry → List TileProgram
tiles_of entries = map (tile_of entries) (range_with_len 0 (tile_count (topology_of entries)))

-- the words that an entry has the report show
abbrev pub show_in : ℕ → Entry → Option Shown
show_in columns (Show tile address words) = Some (record { tile = tile.y * columns + tile.x; address = address; words = words })
show_in columns _ = None

abbrev pub shows_of : List Entry → List Shown
shows_of entries = filter_map (show_in (columns_of entries)) entries

-- the set; a wire holds at most DEFAULT_DEPTH values where no entry says how many
unfoldable pub set_of : List Entry → ProgramSet
set_of entries = record {
  topo = topology_of entries;
  limit = first_or 0 (limits_of entries);
  depth = first_or DEFAULT_DEPTH (depths_of entries);
  ports = ports_of entries;
  tiles = tiles_of entries;
  shows = shows_of entries;
}
