-- The grid: its size, its tiles, switches and ports, and which tiles are neighbours.
use Rattle.std.specs.Prelude.{◌≢◌, ℕ, ◌+◌, ◌-◌, ◌*◌, ◌<◌, ◌≤◌, nat_lt, if◌then◌else◌, Option, Some, None, IsNone, option_map, List, [], ◌∷◌, ◌++◌, length, slice_get, All, AllPairs}
use Rattle.raw_grid.specs.declared.limits.TheConstants.{MAX_SIZE}
use Rattle.raw_grid.specs.declared.parts.Net.TheVariants.{One}
use Rattle.raw_grid.specs.declared.parts.PortKind.{PortKind}
use Rattle.raw_grid.specs.declared.parts.PortKind.TheVariants as port
use Rattle.raw_grid.specs.declared.parts.PortPlace.{PortPlace}
use Rattle.raw_grid.specs.declared.parts.ProcKind.{ProcKind}
use Rattle.raw_grid.specs.declared.parts.ProcKind.TheVariants.{Tile, Switch, Source, Sink}
use Rattle.raw_grid.specs.declared.parts.Side.{Side}
use Rattle.raw_grid.specs.declared.parts.Side.TheVariants.{N, E, S, W}

-- the numbers of columns and rows, and the places of the ports in the order of their declarations
pub record Topology : Type 0 where
  pub cols : ℕ
  pub rows : ℕ
  pub places : List PortPlace

-- a grid of this size without ports
abbrev pub without_ports : ℕ → ℕ → Topology
without_ports cols rows = record { cols = cols; rows = rows; places = [] }

-- the grid with one port more
abbrev pub with_port : Topology → PortPlace → Topology
with_port t place = record t { places = t.places ++ place ∷ [] }

-- the place of a port of this kind at the west of the first tile of a row, on network 1
abbrev pub west_place : PortKind → ℕ → PortPlace
west_place kind row = record { kind = kind; net = One; x = 0; y = row; side = W }

-- a grid of this size with two ports: a source at the first row, and a sink at this one
abbrev pub with_west_ports : ℕ → ℕ → ℕ → Topology
with_west_ports cols rows row = record { cols = cols; rows = rows; places = west_place port.Source 0 ∷ west_place port.Sink row ∷ [] }

-- how many tiles there are
abbrev pub tile_count : Topology → ℕ
tile_count t = t.cols * t.rows

-- how many processors there are: the tiles, as many switches, and the ports
abbrev pub proc_count : Topology → ℕ
proc_count t = 2 * tile_count t + length t.places

-- the number of the tile in column x and row y
abbrev pub tile_number : Topology → ℕ → ℕ → ℕ
tile_number t x y = y * t.cols + x

-- the number of the switch beside a tile
abbrev pub switch_number : Topology → ℕ → ℕ
switch_number t tile = tile_count t + tile

-- the number of the switch in column x and row y
abbrev pub switch_at : Topology → ℕ → ℕ → ℕ
switch_at t x y = switch_number t (tile_number t x y)

-- the tile next to the one in column x and row y on a side, where there is one
abbrev pub neighbour : Topology → ℕ → ℕ → Side → Option ℕ
neighbour t x y N = if nat_lt 0 y then Some (tile_number t x (y - 1)) else None
neighbour t x y E = if nat_lt (x + 1) t.cols then Some (tile_number t (x + 1) y) else None
neighbour t x y S = if nat_lt (y + 1) t.rows then Some (tile_number t x (y + 1)) else None
neighbour t x y W = if nat_lt 0 x then Some (tile_number t (x - 1) y) else None

-- what a port of this kind is among the processors
abbrev pub port_proc : PortKind → ProcKind
port_proc port.Source = Source
port_proc port.Sink = Sink

-- what processor p is: tiles come first, then the switches, then the ports
abbrev pub kind_at : Topology → ℕ → Option ProcKind
kind_at t p =
    if nat_lt p (tile_count t) then Some Tile
    else (if nat_lt p (2 * tile_count t) then Some Switch
    else option_map (λ place. port_proc place.kind) (slice_get t.places (p - 2 * tile_count t)))

-- the columns and rows are 1 to 8 each
pub record IsSize (cols rows : ℕ) : Type 0 where
  pub some_cols : 1 ≤ cols
  pub most_cols : cols ≤ MAX_SIZE
  pub some_rows : 1 ≤ rows
  pub most_rows : rows ≤ MAX_SIZE

-- the place names a tile of the grid, and a side on which that tile has no neighbour
pub record IsAtEdge (t : Topology) (place : PortPlace) : Type 0 where
  pub column : place.x < t.cols
  pub row : place.y < t.rows
  pub edge : IsNone (neighbour t place.x place.y place.side)

-- the size is 1 to 8 by 1 to 8, each port is at an edge, and no two ports have the same place
pub record IsTopology (t : Topology) : Type 0 where
  pub size : IsSize t.cols t.rows
  pub at_edges : All (IsAtEdge t) t.places
  pub distinct : AllPairs (λ a b. a ≢ b) t.places
