-- The states of a machine: its start, and which states fit it.
use Rattle.std.specs.Prelude.{◌≡◌, ℕ, ◌^◌, ◌<◌, ◌≤◌, List, [], ◌∷◌, ◌++◌, length, map, replicate, slice_get, slice_index, Some}
use Rattle.std.specs.List.{All}
use Rattle.std.specs.Int.{w32, to_be_bytes}
use Rattle.raw_network.specs.Network.{State, values_on}
use Rattle.raw_tile_isa.specs.declared.networks.TheConstants.{NETWORK_1, NETWORK_2}
use Rattle.raw_tile_isa.specs.Instruction.{Instruction}
use Rattle.raw_switch_isa.specs.Instruction.{SwitchInstruction}
use Rattle.raw_grid.specs.declared.parts.PortKind.{PortKind}
use Rattle.raw_grid.specs.declared.parts.PortKind.TheVariants as kind
use Rattle.raw_grid.specs.declared.parts.PortPlace.{PortPlace}
use Rattle.raw_grid.specs.declared.parts.ProcKind.TheVariants as proc
use Rattle.raw_grid.specs.Topology.{proc_count, kind_at}
use Rattle.raw_grid.specs.Wires.{wires_of}
use Rattle.raw_model.specs.declared.marks.Mark.{Mark}
use Rattle.raw_model.specs.declared.marks.Mark.TheVariants.{Going, Halted}
use Rattle.raw_model.specs.Program.{ProgramSet, TileProgram}
unfoldable pub use Rattle.raw_model.specs.Program.{memory_size}
use Rattle.raw_model.specs.declared.program.DataWord.{DataWord}
use Rattle.raw_model.specs.Local.{Local, Tile, Switch, Source, Sink, TileLocal, SwitchLocal, PortLocal}
use Rattle.raw_model.specs.TileTable.{stored}
use Rattle.raw_model.specs.Machine.{tile_code, switch_code, port_program, words_of, capacity_of}

-- a state of a machine: a local state for each processor, and the values on each wire
abbrev pub MachineState : Type 0
MachineState = State Local

-- the mark of a processor that has done nothing yet: an empty program is halted
abbrev pub first_mark : {A : Type 0} → List A → Mark
first_mark [] = Halted
first_mark (ins ∷ code) = Going

-- a memory in which nothing has been stored
abbrev pub empty_memory : List ℕ
empty_memory = replicate memory_size 0

-- a memory after words are stored, one after another
abbrev pub with_words : List ℕ → List DataWord → List ℕ
with_words memory [] = memory
with_words memory (cell ∷ cells) = with_words (stored memory cell.address (to_be_bytes w32 cell.word)) cells

-- a memory at the start: each of these words at its address, and 0 elsewhere
unfoldable pub first_memory : List DataWord → List ℕ
first_memory cells = with_words empty_memory cells

-- a tile with this program and these words that has done nothing yet
abbrev pub first_tile : TileProgram → TileLocal
first_tile tile = record { regs = replicate 32 0; pc = 0; count = 0; mark = first_mark tile.code; memory = first_memory tile.cells }

-- a switch with this program that has done nothing yet
abbrev pub first_switch : List SwitchInstruction → SwitchLocal
first_switch code = record { regs = replicate 4 0; pc = 0; count = 0; mark = first_mark code }

-- a port of this kind that has done nothing yet
abbrev pub first_port : PortKind → Local
first_port kind.Source = Source (record { done = 0; got = [] })
first_port kind.Sink = Sink (record { done = 0; got = [] })

-- the state in which no processor has done anything: tiles, switches and ports, and empty wires
unfoldable pub start : ProgramSet → MachineState
start set =
    record {
      locals = map (λ (tile : TileProgram). Tile (first_tile tile)) set.tiles ++ (map (λ (tile : TileProgram). Switch (first_switch tile.switch)) set.tiles ++ map (λ (place : PortPlace). first_port place.kind) set.topo.places);
      wires = replicate (length (wires_of set.topo)) [];
    }

-- a tile's local state is within its ranges, and goes on only inside its program
pub record FitsTile (limit : ℕ) (code : List Instruction) (l : TileLocal) : Type 0 where
  pub registers : length l.regs ≡ 32
  pub words : All (λ word. word < 2 ^ 32) l.regs
  pub register_0 : slice_index l.regs 0 ≡ 0
  pub register_24 : slice_index l.regs NETWORK_1 ≡ 0
  pub register_25 : slice_index l.regs NETWORK_2 ≡ 0
  pub pc : l.pc < 2 ^ 32
  pub inside : l.mark ≡ Going → l.pc < length code
  pub count : l.count ≤ limit
  pub memory : length l.memory ≡ memory_size
  pub bytes : All (λ byte. byte < 256) l.memory

-- a switch's local state is within its ranges, and goes on only inside its program
pub record FitsSwitch (limit : ℕ) (code : List SwitchInstruction) (l : SwitchLocal) : Type 0 where
  pub registers : length l.regs ≡ 4
  pub words : All (λ word. word < 2 ^ 32) l.regs
  pub pc : l.pc < 2 ^ 32
  pub inside : l.mark ≡ Going → l.pc < length code
  pub count : l.count ≤ limit

-- a source has sent no more words than it has
pub record FitsSource (words : List ℕ) (l : PortLocal) : Type 0 where
  pub done : l.done ≤ length words
  pub got : l.got ≡ []

-- a sink holds the words that it has taken out, no more than its capacity
pub record FitsSink (capacity : ℕ) (l : PortLocal) : Type 0 where
  pub done : l.done ≤ capacity
  pub got : length l.got ≡ l.done
  pub words : All (λ word. word < 2 ^ 32) l.got

-- a local state is of the kind of processor p, and fits it
abbrev pub IsFit : ProgramSet → ℕ → Local → Type 0
IsFit set p (Tile l) = (kind_at set.topo p ≡ Some proc.Tile) × FitsTile set.limit (tile_code set p) l
IsFit set p (Switch l) = (kind_at set.topo p ≡ Some proc.Switch) × FitsSwitch set.limit (switch_code set p) l
IsFit set p (Source l) = (kind_at set.topo p ≡ Some proc.Source) × FitsSource (words_of (port_program set p)) l
IsFit set p (Sink l) = (kind_at set.topo p ≡ Some proc.Sink) × FitsSink (capacity_of (port_program set p)) l

-- a state fits a program set
pub record Fits (set : ProgramSet) (s : MachineState) : Type 0 where
  pub processors : length s.locals ≡ proc_count set.topo
  pub locals : (p : ℕ) (l : Local) → slice_get s.locals p ≡ Some l → IsFit set p l
  pub wires : length s.wires ≡ length (wires_of set.topo)
  pub depth : (w : ℕ) → length (values_on s.wires w) ≤ set.depth
  pub values : (w : ℕ) → All (λ word. word < 2 ^ 32) (values_on s.wires w)
