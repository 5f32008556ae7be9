-- What a name stands for in tile text: an instruction, and the operands that its text has.
use Rattle.std.specs.Prelude.{◌≡◌, ℕ, false, List, [], ◌∷◌, codes, Option, Some, if◌then◌else◌}
use Rattle.std.specs.Option.{option_map}
use Rattle.std.specs.List.{list_any}
use Rattle.std.specs.Str.{bytes_eq}
use Rattle.raw_tile_isa.specs.declared.table.TileOp.{TileOp}
use Rattle.raw_tile_isa.specs.declared.table.TileOp.TheVariants.{Sll, Addu, Beq}
use Rattle.raw_tile_isa.specs.declared.table.Operand.{Operand}
use Rattle.raw_tile_isa.specs.declared.table.Operand.TheVariants.{Rd, Rs, Branch}
use Rattle.raw_tile_isa.specs.Table.{row_of, op_named}
use Rattle.raw_tile_isa.specs.Instruction.{uses, is_rs, is_rt, is_rd, is_sh, is_imm, is_target}

-- an instruction and the operands of its text; a field in which none of them stands is 0
pub record Form : Type 0 where
  pub op : TileOp
  pub operands : List Operand

-- the form with these two
abbrev pub form : TileOp → List Operand → Form
form op operands = record { op = op; operands = operands }

-- an instruction as its row of the table has it
abbrev pub full_form : TileOp → Form
full_form op = form op (row_of op).operands

-- the form of a name: 'nop', 'move' and 'b' are short for 'sll', 'addu' and 'beq' with registers 0, and each
-- other name is that of a row
unfoldable pub form_named : List ℕ → Option Form
form_named name =
    if bytes_eq name (codes "nop") then Some (form Sll [])
    else (if bytes_eq name (codes "move") then Some (form Addu (Rd ∷ Rs ∷ []))
    else (if bytes_eq name (codes "b") then Some (form Beq (Branch ∷ []))
    else option_map full_form (op_named name)))

-- the operands of a form stand in fields that its instruction uses
pub record FillsOwn (f : Form) : Type 0 where
  pub rs : uses is_rs f.op ≡ false → list_any is_rs f.operands ≡ false
  pub rt : uses is_rt f.op ≡ false → list_any is_rt f.operands ≡ false
  pub rd : uses is_rd f.op ≡ false → list_any is_rd f.operands ≡ false
  pub sh : uses is_sh f.op ≡ false → list_any is_sh f.operands ≡ false
  pub imm : uses is_imm f.op ≡ false → list_any is_imm f.operands ≡ false
  pub target : uses is_target f.op ≡ false → list_any is_target f.operands ≡ false
