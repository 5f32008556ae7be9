-- Tiles and switches that go on straight, from one instruction to the one behind it.
use Rattle.std.specs.Prelude.{◌≡◌, ℕ, ◌+◌, ◌<◌, ◌≤◌, Option, Some, None, List, [], ◌∷◌, length, slice_index}
use Rattle.std.specs.Option.{option_to_list}
use Rattle.raw_tile_isa.specs.declared.limits.TheConstants.{MAX_TILE_CODE}
use Rattle.raw_tile_isa.specs.Instruction.{Instruction}
use Rattle.raw_switch_isa.specs.Instruction.{SwitchInstruction}
use Rattle.raw_grid.specs.declared.parts.Net.{Net}
use Rattle.raw_grid.specs.declared.parts.Net.TheVariants.{One, Two}
use Rattle.raw_grid.specs.Ends.{tile_end}
use Rattle.raw_grid.specs.Topology.{Topology}
use Rattle.raw_grid.specs.Wires.{input_wire, output_wire}
use Rattle.raw_model.specs.declared.limits.TheConstants.{MEMORY_SIZE}
use Rattle.raw_model.specs.declared.marks.Mark.TheVariants.{Going}
use Rattle.raw_model.specs.Local.{TileLocal, SwitchLocal}
use Rattle.raw_model.specs.TileTable.{TileEffect, row_effect}
use Rattle.raw_model.specs.SwitchTable.{following, goes, effect_of}
use Rattle.raw_model.specs.Machine.{tile_takes, tile_sends, first_operand, second_operand, switch_takes, switch_sends, given_to, switch_network_row}
use Rattle.raw_codegen.specs.Steps.{one_value}

-- what a tile holds beside its pc, its count and its mark
pub record Core : Type 0 where
  pub regs : List ℕ
  pub memory : List ℕ

-- what the core of a state within its ranges keeps
pub record IsCore (c : Core) : Type 0 where
  pub registers : length c.regs ≡ 32
  pub register_0 : slice_index c.regs 0 ≡ 0
  pub memory : length c.memory ≡ MEMORY_SIZE

-- a tile that has executed its first k instructions, each once
abbrev pub at_tile : ℕ → Core → TileLocal
at_tile k c = record { regs = c.regs; pc = k; count = k; mark = Going; memory = c.memory }

-- a switch that has
abbrev pub at_switch : ℕ → List ℕ → SwitchLocal
at_switch k regs = record { regs = regs; pc = k; count = k; mark = Going }

-- the row of an instruction in a program of this size, with the values that it takes
abbrev pub row_of_ins : Instruction → ℕ → TileLocal → List ℕ → TileEffect
row_of_ins ins size l values =
    row_effect ins.op size l ins (first_operand (Some ins) l.regs values) (second_operand (Some ins) l.regs values)

-- what is sent on each network: nothing, or one value on one network
abbrev pub nothing : Net → Option ℕ
nothing net = None

abbrev pub only : Net → ℕ → Net → Option ℕ
only One x One = Some x
only One x Two = None
only Two x One = None
only Two x Two = Some x

-- the effect leads straight on from place k to the core b, and sends this
pub record GoesTo (k : ℕ) (b : Core) (sent : Net → Option ℕ) (effect : TileEffect) : Type 0 where
  pub next : effect.next ≡ at_tile (k + 1) b
  pub sent1 : effect.sent1 ≡ sent One
  pub sent2 : effect.sent2 ≡ sent Two

-- at each place of each program, but the last, the instruction with these values leads from the core a to the core b, and sends this
pub record Does (ins : Instruction) (values : List ℕ) (a b : Core) (sent : Net → Option ℕ) : Type 0 where
  pub row : (size k : ℕ) → k + 1 < size → size ≤ MAX_TILE_CODE → GoesTo k b sent (row_of_ins ins size (at_tile k a) values)

-- the instruction uses no wire
pub record IsPlain (ins : Instruction) : Type 0 where
  pub takes : (topo : Topology) (p : ℕ) → tile_takes topo p (Some ins) ≡ []
  pub sends : (topo : Topology) (p : ℕ) → tile_sends topo p (Some ins) ≡ []

-- it sends on a network, and takes nothing
pub record IsSender (net : Net) (ins : Instruction) : Type 0 where
  pub takes : (topo : Topology) (p : ℕ) → tile_takes topo p (Some ins) ≡ []
  pub sends : (topo : Topology) (p : ℕ) → tile_sends topo p (Some ins) ≡ option_to_list (output_wire topo p (tile_end net))

-- it takes from a network, and sends nothing
pub record IsTaker (net : Net) (ins : Instruction) : Type 0 where
  pub takes : (topo : Topology) (p : ℕ) → tile_takes topo p (Some ins) ≡ option_to_list (input_wire topo p (tile_end net))
  pub sends : (topo : Topology) (p : ℕ) → tile_sends topo p (Some ins) ≡ []

-- a block of instructions that use no wire leads from the core a to the core b
abbrev pub Runs : List Instruction → Core → Core → Type 0
Runs [] a b = a ≡ b
Runs (ins ∷ rest) a b = (m : Core) × IsPlain ins × Does ins [] a m nothing × Runs rest m b

-- a core with this memory
abbrev pub core_with : List ℕ → List ℕ → Core
core_with regs memory = record { regs = regs; memory = memory }

-- the block makes one memory of another, whatever the registers hold
pub record Turns (block : List Instruction) (memory after : List ℕ) : Type 0 where
  pub runs : (regs : List ℕ) → IsCore (core_with regs memory) → (left : List ℕ) × Runs block (core_with regs memory) (core_with left after)

-- the instruction, behind a block that uses no wire, sends the value x on a network
pub record SendsWord (front : List Instruction) (ins : Instruction) (net : Net) (x : ℕ) (memory : List ℕ) : Type 0 where
  pub sender : IsSender net ins
  pub runs : (regs : List ℕ) → IsCore (core_with regs memory) →
      (left : List ℕ) × Runs front (core_with regs memory) (core_with left memory) × Does ins [] (core_with left memory) (core_with left memory) (only net x)

-- the instruction takes the value x from a network, and makes one memory of another
pub record TakesWord (ins : Instruction) (net : Net) (x : ℕ) (memory after : List ℕ) : Type 0 where
  pub taker : IsTaker net ins
  pub does : (regs : List ℕ) → IsCore (core_with regs memory) →
      (left : List ℕ) × Does ins (x ∷ []) (core_with regs memory) (core_with left after) nothing

-- at switch p the instruction takes one value from wire w, sends it to wire v, and goes on
pub record PassesOn (topo : Topology) (p : ℕ) (ins : SwitchInstruction) (w v : ℕ) : Type 0 where
  pub takes : switch_takes topo p (Some ins) ≡ w ∷ []
  pub sends : switch_sends topo p (Some ins) ≡ v ∷ []
  pub next : (size : ℕ) (l : SwitchLocal) (x : ℕ) →
      (effect_of (Some ins) size l (given_to topo p (Some ins) (x ∷ []))).next ≡ goes size l l.regs (following l)
  pub sent : (size : ℕ) (l : SwitchLocal) (x : ℕ) →
      (switch_network_row topo p (effect_of (Some ins) size l (given_to topo p (Some ins) (x ∷ [])))).sent ≡ one_value v x
