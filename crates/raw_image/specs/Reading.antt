-- The fields of an image in their order: the set that they say, or the first fault.
use Rattle.std.specs.Prelude.{◌≡◌, ℕ, ◌+◌, ◌-◌, ◌*◌, ◌/◌, nat_lt, ◌==◌, ◌&&◌, not, Bool, List, [], ◌∷◌, ◌++◌, length, min, codes, Option, Some, None, is_some, Result, Ok, Err, if◌then◌else◌, sum_by}
use Rattle.std.specs.List.{list_any}
use Rattle.std.specs.Option.{option_and_then}
use Rattle.std.specs.Str.{bytes_eq}
use Rattle.std.specs.Int.{w32, w64}
use Rattle.raw_image.specs.declared.version.TheConstants.{VERSION_1_DEPTH}
use Rattle.raw_tile_isa.specs.Instruction.{Instruction, decode_of}
use Rattle.raw_tile_isa.specs.declared.limits.TheConstants.{MAX_TILE_CODE}
use Rattle.raw_switch_isa.specs.Instruction.{SwitchInstruction}
use Rattle.raw_switch_isa.specs.declared.limits.TheConstants.{MAX_SWITCH_CODE}
use Rattle.raw_grid.specs.declared.parts.PortKind.{PortKind}
use Rattle.raw_grid.specs.declared.parts.PortKind.TheVariants.{Source, Sink}
use Rattle.raw_grid.specs.declared.parts.PortPlace.{PortPlace}
use Rattle.raw_grid.specs.declared.limits.TheConstants.{MAX_SIZE}
use Rattle.raw_grid.specs.Names.{kind_number, net_number, side_number, kind_with, net_with, side_with}
use Rattle.raw_grid.specs.Topology.{Topology, tile_count, neighbour, without_ports, with_port}
use Rattle.raw_model.specs.declared.limits.TheConstants.{MAX_STEPS, MAX_DEPTH, MEMORY_SIZE, MEMORY_WORDS, MAX_ALL_CODE, MAX_ALL_SWITCH_CODE, MAX_ALL_CELLS, MAX_ALL_MISSES, MAX_ALL_WORDS, MAX_CAPACITY, MAX_ALL_CAPACITIES, MAX_SHOWS, MAX_ALL_SHOWN}
use Rattle.raw_model.specs.declared.program.DataWord.{DataWord}
use Rattle.raw_model.specs.declared.program.Show.{Show}
use Rattle.raw_model.specs.Program.{ProgramSet, TileProgram, PortProgram, has_wires}
use Rattle.raw_image.specs.declared.kind.ImageKind.TheVariants.{BadMagic, BadVersion, BadField, Extra}
use Rattle.raw_image.specs.declared.refused.Fault.{Fault}
use Rattle.raw_image.specs.declared.version.Version.{Version}
use Rattle.raw_image.specs.declared.version.Version.TheVariants as version
use Rattle.raw_image.specs.declared.tiles.Room.{Room}
use Rattle.raw_image.specs.Fields.{◌>>=◌, fault_at, front_at, said, said_at, byte_at, between, address_from, zeros_at, repeated, list_at}
use Rattle.raw_image.specs.Switch.{decode_of as switch_of}

-- a count of at most so many
abbrev pub count_at : ℕ → List ℕ → Result (ℕ × List ℕ) Fault
count_at most bytes = said_at w32 (between 0 most) bytes

-- ---- ports

-- the grid with the ports so far, and what these are given
pub record Ports : Type 0 where
  pub topo : Topology
  pub programs : List PortProgram

-- how many words their sources have together, and how many words their sinks hold
abbrev pub words_in : List PortProgram → ℕ
words_in programs = sum_by (λ (port : PortProgram). length port.words) programs

abbrev pub capacity_in : List PortProgram → ℕ
capacity_in programs = sum_by (λ (port : PortProgram). port.capacity) programs

-- what the totals of a set leave behind these
pub record IsPortRoom (programs : List PortProgram) (words capacity : ℕ) : Type 0 where
  pub words_left : words ≡ MAX_ALL_WORDS - words_in programs
  pub capacity_left : capacity ≡ MAX_ALL_CAPACITIES - capacity_in programs

-- whether a place names a tile of the grid, and a side on which that tile has no neighbour
abbrev pub is_at_edge : Topology → PortPlace → Bool
is_at_edge topo place =
    nat_lt place.x topo.cols && nat_lt place.y topo.rows && not (is_some (neighbour topo place.x place.y place.side))

abbrev pub same_place : PortPlace → PortPlace → Bool
same_place a b =
    kind_number a.kind == kind_number b.kind && net_number a.net == net_number b.net
    && a.x == b.x && a.y == b.y && side_number a.side == side_number b.side

-- a place where a port may stand: at the edge, and where none stands
abbrev pub placed : Topology → PortPlace → Fault → Fault → List ℕ → Result (PortPlace × List ℕ) Fault
placed topo place off taken rest =
    if not (is_at_edge topo place) then Err off
    else (if list_any (same_place place) topo.places then Err taken
    else Ok (place, rest))

-- the place of a port: a place off the edge is told at its column, and one that a port has at its side
unfoldable pub place_at : Topology → List ℕ → Result (PortPlace × List ℕ) Fault
place_at topo bytes = do
  kind ← byte_at kind_with bytes
  net ← byte_at net_with kind.1
  x ← byte_at Some net.1
  y ← byte_at Some x.1
  side ← byte_at side_with y.1
  placed topo (record { kind = kind.0; net = net.0; x = x.0; y = y.0; side = side.0 }) (fault_at BadField net.1) (fault_at BadField y.1) side.1

-- the words of a source
unfoldable pub words_at : ℕ → List ℕ → Result (List ℕ × List ℕ) Fault
words_at count bytes = list_at (λ before. said_at w32 Some) count bytes

-- what a port of this kind is given: a source at most so many words, a sink at most so much capacity
abbrev pub given_at : PortKind → ℕ → ℕ → List ℕ → Result (PortProgram × List ℕ) Fault
given_at Source words capacity bytes =
    count_at words bytes >>= λ count. words_at count.0 count.1 >>= λ words. Ok (record { words = words.0; capacity = 0 }, words.1)
given_at Sink words capacity bytes =
    count_at (min MAX_CAPACITY capacity) bytes >>= λ capacity. Ok (record { words = []; capacity = capacity.0 }, capacity.1)

-- a port behind others
unfoldable pub port_at : Ports → List ℕ → Result (Ports × List ℕ) Fault
port_at ports bytes = do
  place ← place_at ports.topo bytes
  rest ← zeros_at 3 place.1
  given ← given_at place.0.kind (MAX_ALL_WORDS - words_in ports.programs) (MAX_ALL_CAPACITIES - capacity_in ports.programs) rest
  Ok (record { topo = with_port ports.topo place.0; programs = ports.programs ++ given.0 ∷ [] }, given.1)

-- a grid without ports
abbrev pub no_ports : ℕ → ℕ → Ports
no_ports columns rows = record { topo = without_ports columns rows; programs = [] }

-- the ports of a grid: at most one of each kind on each network at each of its edges
unfoldable pub ports_at : ℕ → ℕ → List ℕ → Result (Ports × List ℕ) Fault
ports_at columns rows bytes = do
  count ← count_at (8 * (columns + rows)) bytes
  repeated port_at count.0 (no_ports columns rows) count.1

-- ---- tiles

-- the program of a tile
unfoldable pub code_at : ℕ → List ℕ → Result (List Instruction × List ℕ) Fault
code_at count bytes = list_at (λ before. said_at w32 decode_of) count bytes

-- the switch instruction of a word, where each end that it names has a wire at switch p
abbrev pub wired_of : Topology → ℕ → ℕ → Option SwitchInstruction
wired_of topo p word = option_and_then (λ ins. if has_wires topo p ins then Some ins else None) (switch_of word)

-- the program of switch p
unfoldable pub switch_at : Topology → ℕ → ℕ → List ℕ → Result (List SwitchInstruction × List ℕ) Fault
switch_at topo p count bytes = list_at (λ before. said_at w64 (wired_of topo p)) count bytes

-- the least address behind some words
abbrev pub least_behind : List DataWord → ℕ
least_behind [] = 0
least_behind (cell ∷ []) = cell.address + 1
least_behind (cell ∷ next ∷ cells) = least_behind (next ∷ cells)

-- a word in memory, at a given address or above it
unfoldable pub cell_at : ℕ → List ℕ → Result (DataWord × List ℕ) Fault
cell_at least bytes = do
  address ← said_at w32 (address_from least) bytes
  word ← said_at w32 Some address.1
  Ok (record { address = address.0; word = word.0 }, word.1)

-- the words in the memory of a tile
unfoldable pub cells_at : ℕ → List ℕ → Result (List DataWord × List ℕ) Fault
cells_at count bytes = list_at (λ before. cell_at (least_behind before)) count bytes

-- the miss stream of a tile: version 1 has none
abbrev pub misses_at : Version → ℕ → List ℕ → Result (List ℕ × List ℕ) Fault
misses_at version.One room bytes = Ok ([], bytes)
misses_at version.Two room bytes = count_at room bytes >>= λ count. front_at count.0 count.1

-- what the totals of a set leave behind these tiles
abbrev pub room_behind : List TileProgram → Room
room_behind tiles = record {
  code = MAX_ALL_CODE - sum_by (λ (tile : TileProgram). length tile.code) tiles;
  switch = MAX_ALL_SWITCH_CODE - sum_by (λ (tile : TileProgram). length tile.switch) tiles;
  cells = MAX_ALL_CELLS - sum_by (λ (tile : TileProgram). length tile.cells) tiles;
  misses = MAX_ALL_MISSES - sum_by (λ (tile : TileProgram). length tile.misses) tiles;
}

-- what is left of this room behind one more tile
abbrev pub room_after : Room → TileProgram → Room
room_after room tile = record {
  code = room.code - length tile.code;
  switch = room.switch - length tile.switch;
  cells = room.cells - length tile.cells;
  misses = room.misses - length tile.misses;
}

-- what a tile is given whose switch is p
unfoldable pub tile_at : Version → Topology → ℕ → Room → List ℕ → Result (TileProgram × List ℕ) Fault
tile_at version topo p room bytes = do
  size ← count_at (min MAX_TILE_CODE room.code) bytes
  code ← code_at size.0 size.1
  switch_size ← count_at (min MAX_SWITCH_CODE room.switch) code.1
  switch ← switch_at topo p switch_size.0 switch_size.1
  count ← count_at (min MEMORY_WORDS room.cells) switch.1
  cells ← cells_at count.0 count.1
  misses ← misses_at version room.misses cells.1
  Ok (record { code = code.0; switch = switch.0; cells = cells.0; misses = misses.0 }, misses.1)

-- all tiles by their numbers; their switches stand behind them, in the same order
unfoldable pub tiles_at : Version → Topology → List ℕ → Result (List TileProgram × List ℕ) Fault
tiles_at version topo bytes =
    list_at (λ before. tile_at version topo (tile_count topo + length before) (room_behind before)) (tile_count topo) bytes

-- ---- shows

-- how many words these show
abbrev pub shown_in : List Show → ℕ
shown_in shows = sum_by (λ (show : Show). show.words) shows

-- words of the memory of one of so many tiles, at most so many
unfoldable pub show_at : ℕ → ℕ → List ℕ → Result (Show × List ℕ) Fault
show_at tiles room bytes = do
  tile ← said_at w32 (between 0 (tiles - 1)) bytes
  address ← said_at w32 (address_from 0) tile.1
  words ← said_at w32 (between 1 (min room ((MEMORY_SIZE - address.0) / 4))) address.1
  Ok (record { tile = tile.0; address = address.0; words = words.0 }, words.1)

unfoldable pub shows_at : ℕ → List ℕ → Result (List Show × List ℕ) Fault
shows_at tiles bytes = do
  count ← count_at MAX_SHOWS bytes
  list_at (λ before. show_at tiles (MAX_ALL_SHOWN - shown_in before)) count.0 count.1

-- ---- the whole

-- the magic; the bytes behind it
abbrev pub magic_at : List ℕ → Result (List ℕ) Fault
magic_at bytes =
    front_at 4 bytes >>= λ field. if bytes_eq field.0 (codes "RAWT") then Ok field.1 else Err (fault_at BadMagic bytes)

-- the version with a number, if there is one
abbrev pub version_with : ℕ → Option Version
version_with number = if number == 1 then Some version.One else (if number == 2 then Some version.Two else None)

abbrev pub version_at : List ℕ → Result (Version × List ℕ) Fault
version_at bytes =
    said_at w32 Some bytes >>= λ number. said (fault_at BadVersion bytes) number.1 (version_with number.0)

-- the depth of wires, and a byte 0; version 1 has two bytes 0, and means its own depth
abbrev pub depth_at : Version → List ℕ → Result (ℕ × List ℕ) Fault
depth_at version.One bytes = zeros_at 2 bytes >>= λ rest. Ok (VERSION_1_DEPTH, rest)
depth_at version.Two bytes = byte_at (between 1 MAX_DEPTH) bytes >>= λ depth. zeros_at 1 depth.1 >>= λ rest. Ok (depth.0, rest)

-- the fields behind the version
unfoldable pub set_at : Version → List ℕ → Result (ProgramSet × List ℕ) Fault
set_at version bytes = do
  columns ← byte_at (between 1 MAX_SIZE) bytes
  rows ← byte_at (between 1 MAX_SIZE) columns.1
  depth ← depth_at version rows.1
  limit ← said_at w32 (between 1 MAX_STEPS) depth.1
  ports ← ports_at columns.0 rows.0 limit.1
  tiles ← tiles_at version ports.0.topo ports.1
  shows ← shows_at (tile_count ports.0.topo) tiles.1
  Ok (record { topo = ports.0.topo; limit = limit.0; depth = depth.0; ports = ports.0.programs; tiles = tiles.0; shows = shows.0 }, shows.1)

-- all bytes: the set, or the first fault
unfoldable pub reading : List ℕ → Result ProgramSet Fault
reading bytes = do
  rest ← magic_at bytes
  version ← version_at rest
  set ← set_at version.0 version.1
  if length set.1 == 0 then Ok set.0 else Err (fault_at Extra set.1)
