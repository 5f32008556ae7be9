-- The instructions that scripts give to tiles and switches.
use Rattle.std.specs.Prelude.{◌≡◌, ℕ, ◌*◌, ◌<◌, false, ◌||◌, ◌==◌, List, slice_set}
use Rattle.std.specs.Int.{w32, to_be_bytes}
use Rattle.raw_tile_isa.specs.declared.networks.TheConstants.{NETWORK_1, NETWORK_2}
use Rattle.raw_tile_isa.specs.declared.table.TileOp.TheVariants as tile
use Rattle.raw_tile_isa.specs.Instruction.{Instruction, is_network}
use Rattle.raw_tile_isa.specs.Made.{registers, immediate}
use Rattle.raw_switch_isa.specs.declared.instruction.SwitchSource.TheVariants.{Input}
use Rattle.raw_switch_isa.specs.Instruction.{SwitchInstruction}
use Rattle.raw_switch_isa.specs.Made.{nop, with_route}
use Rattle.raw_grid.specs.declared.parts.Net.{Net}
use Rattle.raw_grid.specs.declared.parts.Net.TheVariants.{One, Two}
use Rattle.raw_grid.specs.declared.parts.Side.{Side}
use Rattle.raw_grid.specs.Ends.{side_end, tile_end}
use Rattle.raw_model.specs.TileTable.{stored}
use Rattle.raw_codegen.specs.Straight.{Core}

-- the register of a network
abbrev pub register_of : Net → ℕ
register_of One = NETWORK_1
register_of Two = NETWORK_2

-- a register that keeps what is written to it
pub record IsKeeping (register : ℕ) : Type 0 where
  pub below : register < 32
  pub keeps : ((register == 0) || is_network register) ≡ false

-- 'addu $24, $r, $0', or '$25' for network 2
abbrev pub send_ins : Net → ℕ → Instruction
send_ins net register = registers tile.Addu (register_of net) register 0

-- 'lw $r, 4v($0)' and 'sw $r, 4v($0)': the word v of the memory, counted from 0
abbrev pub load_ins : ℕ → ℕ → Instruction
load_ins register v = immediate tile.Lw register 0 (4 * v)

abbrev pub store_ins : ℕ → ℕ → Instruction
store_ins register v = immediate tile.Sw register 0 (4 * v)

-- a core after a word is written to a register, and a memory after one is stored
abbrev pub written : Core → ℕ → ℕ → Core
written a register x = record { regs = slice_set a.regs register x; memory = a.memory }

abbrev pub with_word : List ℕ → ℕ → ℕ → List ℕ
with_word memory v x = stored memory (4 * v) (to_be_bytes w32 x)

-- 'nop NET:SIDE>P': what comes from a side of a switch goes to its tile; and 'nop NET:P>SIDE', the other way
abbrev pub from_side : Net → Side → SwitchInstruction
from_side net side = with_route nop (tile_end net) (Input (side_end net side))

abbrev pub to_side : Net → Side → SwitchInstruction
to_side net side = with_route nop (side_end net side) (Input (tile_end net))
