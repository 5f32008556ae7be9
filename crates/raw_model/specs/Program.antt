-- What a program set is, and what each one keeps.
use Rattle.std.specs.Prelude.{◌≡◌, ℕ, ◌+◌, ◌*◌, ◌%◌, ◌^◌, ◌≤◌, ◌<◌, Bool, true, ◌&&◌, List, length, slice_get, is_some, Some, sum_by}
use Rattle.std.specs.List.{All, AllPairs, list_all}
use Rattle.raw_tile_isa.specs.declared.limits.TheConstants.{MAX_TILE_CODE}
use Rattle.raw_tile_isa.specs.Instruction.{Instruction, IsTileIns}
use Rattle.raw_switch_isa.specs.declared.limits.TheConstants.{MAX_SWITCH_CODE}
use Rattle.raw_switch_isa.specs.Instruction.{SwitchInstruction, IsSwitchIns}
use Rattle.raw_switch_isa.specs.Ends.{inputs_of, outputs_of}
use Rattle.raw_grid.specs.declared.parts.PortKind.{PortKind}
use Rattle.raw_grid.specs.declared.parts.PortKind.TheVariants as kind
use Rattle.raw_grid.specs.declared.parts.PortPlace.{PortPlace}
use Rattle.raw_grid.specs.Topology.{Topology, IsTopology, tile_count}
use Rattle.raw_grid.specs.Wires.{input_wire, output_wire}
use Rattle.raw_model.specs.declared.limits.TheConstants.{MAX_STEPS, MAX_DEPTH, MEMORY_SIZE, MAX_ALL_CODE, MAX_ALL_SWITCH_CODE, MAX_ALL_CELLS, MAX_ALL_MISSES, MAX_ALL_WORDS, MAX_CAPACITY, MAX_ALL_CAPACITIES, MAX_SHOWS, MAX_ALL_SHOWN}
use Rattle.raw_model.specs.declared.program.DataWord.{DataWord}
use Rattle.raw_model.specs.declared.program.Show.{Show}

-- what one tile is given: its own program and that of its switch, the words in its memory at the start,
-- and its miss stream
pub record TileProgram : Type 0 where
  pub code : List Instruction
  pub switch : List SwitchInstruction
  pub cells : List DataWord
  pub misses : List ℕ

-- what one port is given: the words of a source, and how many a sink holds at most
pub record PortProgram : Type 0 where
  pub words : List ℕ
  pub capacity : ℕ

-- a grid, how many instructions a processor executes at most, how many values a wire holds at most,
-- what each port and each tile is given, in the order of their numbers, and what the report shows of memories
pub record ProgramSet : Type 0 where
  pub topo : Topology
  pub limit : ℕ
  pub depth : ℕ
  pub ports : List PortProgram
  pub tiles : List TileProgram
  pub shows : List Show

-- how many bytes the memory of a tile has
unfoldable pub memory_size : ℕ
memory_size = MEMORY_SIZE

-- a word that stands in memory at a lawful address
pub record IsDataWord (cell : DataWord) : Type 0 where
  pub aligned : cell.address % 4 ≡ 0
  pub inside : cell.address < memory_size
  pub word : cell.word < 2 ^ 32

-- programs of lawful instructions, short enough for one tile and its switch, and words by rising address
pub record IsTileProgram (tile : TileProgram) : Type 0 where
  pub instructions : All IsTileIns tile.code
  pub few : length tile.code ≤ MAX_TILE_CODE
  pub switch_instructions : All IsSwitchIns tile.switch
  pub few_switch : length tile.switch ≤ MAX_SWITCH_CODE
  pub cells : All IsDataWord tile.cells
  pub rising : AllPairs (λ (a b : DataWord). a.address < b.address) tile.cells
  pub misses : All (λ turns. turns < 256) tile.misses

-- words of 32 bits, and a capacity within its limit
pub record IsPortProgram (port : PortProgram) : Type 0 where
  pub words : All (λ word. word < 2 ^ 32) port.words
  pub capacity : port.capacity ≤ MAX_CAPACITY

-- a source has no capacity, and a sink has no words
abbrev pub IsOfKind : PortKind → PortProgram → Type 0
IsOfKind kind.Source port = port.capacity ≡ 0
IsOfKind kind.Sink port = length port.words ≡ 0

-- words of the memory of a tile of the grid
pub record IsShow (topo : Topology) (show : Show) : Type 0 where
  pub tile : show.tile < tile_count topo
  pub aligned : show.address % 4 ≡ 0
  pub some : 1 ≤ show.words
  pub inside : show.address + 4 * show.words ≤ memory_size

-- each end that an instruction of switch p names has a wire
abbrev pub has_wires : Topology → ℕ → SwitchInstruction → Bool
has_wires topo p ins =
    list_all (λ end. is_some (input_wire topo p end)) (inputs_of ins) && list_all (λ end. is_some (output_wire topo p end)) (outputs_of ins)

-- so does each of the programs of all switches; switches stand behind the tiles, in the same order
abbrev pub HaveWires : Topology → List TileProgram → Type 0
HaveWires topo tiles =
    (t : ℕ) (tile : TileProgram) → slice_get tiles t ≡ Some tile → All (λ ins. has_wires topo (tile_count topo + t) ins ≡ true) tile.switch

-- each port's program is of its kind
abbrev pub AreOfKinds : List PortPlace → List PortProgram → Type 0
AreOfKinds places ports =
    (i : ℕ) (place : PortPlace) (port : PortProgram) → slice_get places i ≡ Some place → slice_get ports i ≡ Some port → IsOfKind place.kind port

-- the limits on what all tiles and all ports have together
pub record AreWithinTotals (set : ProgramSet) : Type 0 where
  pub instructions : sum_by (λ (tile : TileProgram). length tile.code) set.tiles ≤ MAX_ALL_CODE
  pub switch_instructions : sum_by (λ (tile : TileProgram). length tile.switch) set.tiles ≤ MAX_ALL_SWITCH_CODE
  pub cells : sum_by (λ (tile : TileProgram). length tile.cells) set.tiles ≤ MAX_ALL_CELLS
  pub misses : sum_by (λ (tile : TileProgram). length tile.misses) set.tiles ≤ MAX_ALL_MISSES
  pub words : sum_by (λ (port : PortProgram). length port.words) set.ports ≤ MAX_ALL_WORDS
  pub capacities : sum_by (λ (port : PortProgram). port.capacity) set.ports ≤ MAX_ALL_CAPACITIES
  pub shows : length set.shows ≤ MAX_SHOWS
  pub shown : sum_by (λ (show : Show). show.words) set.shows ≤ MAX_ALL_SHOWN

-- what each program set keeps
pub record IsSet (set : ProgramSet) : Type 0 where
  pub topology : IsTopology set.topo
  pub some_steps : 1 ≤ set.limit
  pub few_steps : set.limit ≤ MAX_STEPS
  pub some_depth : 1 ≤ set.depth
  pub small_depth : set.depth ≤ MAX_DEPTH
  pub each_port : length set.ports ≡ length set.topo.places
  pub each_tile : length set.tiles ≡ tile_count set.topo
  pub port_programs : All IsPortProgram set.ports
  pub port_kinds : AreOfKinds set.topo.places set.ports
  pub tile_programs : All IsTileProgram set.tiles
  pub wires : HaveWires set.topo set.tiles
  pub shows : All (IsShow set.topo) set.shows
  pub totals : AreWithinTotals set
