-- What a set that is being built stands for: the entries so far.
use Rattle.std.specs.Prelude.{◌≡◌, ℕ, ◌*◌, ◌<◌, ◌≤◌, true, List, [], length, Some, sum_by, slice_get, Contains}
use Rattle.std.specs.Option.{option_map}
use Rattle.std.specs.List.{flat_map}
use Rattle.raw_grid.specs.declared.parts.PortPlace.{PortPlace}
use Rattle.raw_grid.specs.Topology.{tile_count}
use Rattle.raw_model.specs.Program.{memory_size}
use Rattle.raw_set_text.specs.declared.ports.Ports.{Ports}
use Rattle.raw_set_text.specs.declared.tile_parts.TileParts.{TileParts}
use Rattle.raw_set_text.specs.declared.tiles.Tiles.{Tiles}
use Rattle.raw_model.specs.declared.limits.TheConstants.{MEMORY_WORDS}
use Rattle.raw_set_text.specs.Memory.{word_of}
use Rattle.raw_set_text.specs.Entry.{Entry}
use Rattle.raw_set_text.specs.Entry.Entry.{Feed}
use Rattle.raw_set_text.specs.Entries.{columns_of, topology_of, sizes_of, ports_of, codes_of, switches_of, given_at, misses_in}
use Rattle.raw_set_text.specs.Faults.{has_port, capacity_in, fed_in, cells_in, turns_in, instructions_in, routed_in}

-- each source that is fed was declared
abbrev pub AreDeclared : List Entry → Type 0
AreDeclared entries = (place : PortPlace) (words : List ℕ) → Contains entries (Feed place words) → has_port entries place ≡ true

-- the grid and what its ports are given, for these entries
pub record PortsStand (ports : Ports) (entries : List Entry) : Type 0 where
  pub sized : 0 < length (sizes_of entries)
  pub topo : ports.topo ≡ topology_of entries
  pub programs : ports.programs.items ≡ ports_of entries
  pub capacity : ports.capacity ≡ sum_by capacity_in entries
  pub words : ports.words ≡ sum_by fed_in entries
  pub declared : AreDeclared entries

-- what tile t is given, for these entries
pub record TileStands (parts : TileParts) (entries : List Entry) (t : ℕ) : Type 0 where
  pub code : option_map (λ code. code.items) parts.code ≡ slice_get (codes_of entries t) 0
  pub switch : option_map (λ code. code.items) parts.switch ≡ slice_get (switches_of entries t) 0
  pub memory : (i : ℕ) → i < MEMORY_WORDS → word_of parts.memory i ≡ slice_get (given_at entries t (4 * i)) 0
  pub misses : parts.misses.items ≡ flat_map (misses_in (columns_of entries) t) entries

-- no entry gives a tile a word past the memory
abbrev pub AreInside : List Entry → Type 0
AreInside entries = (t address : ℕ) → memory_size ≤ address → given_at entries t address ≡ []

-- what all tiles are given, for these entries
pub record TilesStand (tiles : Tiles) (entries : List Entry) : Type 0 where
  pub sized : 0 < length (sizes_of entries)
  pub count : length tiles.parts.items ≡ tile_count (topology_of entries)
  pub each : (t : ℕ) (parts : TileParts) → slice_get tiles.parts.items t ≡ Some parts → TileStands parts entries t
  pub cells : tiles.cells ≡ sum_by cells_in entries
  pub turns : tiles.turns ≡ sum_by turns_in entries
  pub instructions : tiles.instructions ≡ sum_by instructions_in entries
  pub routed : tiles.routed ≡ sum_by routed_in entries
  pub inside : AreInside entries
