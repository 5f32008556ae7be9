-- The table of a tile's instructions, one row each.
use Rattle.std.specs.Prelude.{ℕ, Bool, false, ◌==◌, List, [], ◌∷◌, Option, codes}
use Rattle.std.specs.List.{find}
use Rattle.std.specs.Str.{bytes_eq}
use Rattle.raw_tile_isa.specs.declared.table.TileOp.{TileOp}
use Rattle.raw_tile_isa.specs.declared.table.TileOp.TheVariants.{Sll, Srl, Sra, Sllv, Srlv, Srav, Jr, Jalr, Addu, Subu, And, Or, Xor, Nor, Slt, Sltu, Mul, Mulhi, Mulhu, Clz, Popc, Halt, Bltz, Bgez, Beq, Bne, Blez, Bgtz, Addiu, Slti, Sltiu, Andi, Ori, Xori, Lui, Lb, Lh, Lw, Lbu, Lhu, Sb, Sh, Sw, J, Jal}
use Rattle.raw_tile_isa.specs.declared.table.Operand.{Operand}
use Rattle.raw_tile_isa.specs.declared.table.Operand.TheVariants.{Rd, Rs, Rt, Shift, Signed, Unsigned, Branch, Jump, Memory}
use Rattle.raw_tile_isa.specs.declared.table.Opcode.{Opcode}
use Rattle.raw_tile_isa.specs.declared.table.Opcode.TheVariants.{Special, Special2, RegImm, Plain}
use Rattle.raw_tile_isa.specs.declared.table.Destination.{Destination}
use Rattle.raw_tile_isa.specs.declared.table.Destination.TheVariants.{Nowhere, InRd, InRt, Link}

-- a row: the name in text, the opcode, the operands in the order of the text, where the result goes
pub record Row : Type 0 where
  pub name : List ℕ
  pub key : Opcode
  pub operands : List Operand
  pub destination : Destination

-- the row with these four columns
abbrev pub row : List ℕ → Opcode → List Operand → Destination → Row
row name key operands destination = record {
  name = name;
  key = key;
  operands = operands;
  destination = destination;
}

-- the table: each instruction's row
abbrev pub row_of : TileOp → Row
row_of Sll = row (codes "sll") (Special 0) (Rd ∷ Rt ∷ Shift ∷ []) InRd
row_of Srl = row (codes "srl") (Special 2) (Rd ∷ Rt ∷ Shift ∷ []) InRd
row_of Sra = row (codes "sra") (Special 3) (Rd ∷ Rt ∷ Shift ∷ []) InRd
row_of Sllv = row (codes "sllv") (Special 4) (Rd ∷ Rt ∷ Rs ∷ []) InRd
row_of Srlv = row (codes "srlv") (Special 6) (Rd ∷ Rt ∷ Rs ∷ []) InRd
row_of Srav = row (codes "srav") (Special 7) (Rd ∷ Rt ∷ Rs ∷ []) InRd
row_of Jr = row (codes "jr") (Special 8) (Rs ∷ []) Nowhere
row_of Jalr = row (codes "jalr") (Special 9) (Rd ∷ Rs ∷ []) InRd
row_of Addu = row (codes "addu") (Special 33) (Rd ∷ Rs ∷ Rt ∷ []) InRd
row_of Subu = row (codes "subu") (Special 35) (Rd ∷ Rs ∷ Rt ∷ []) InRd
row_of And = row (codes "and") (Special 36) (Rd ∷ Rs ∷ Rt ∷ []) InRd
row_of Or = row (codes "or") (Special 37) (Rd ∷ Rs ∷ Rt ∷ []) InRd
row_of Xor = row (codes "xor") (Special 38) (Rd ∷ Rs ∷ Rt ∷ []) InRd
row_of Nor = row (codes "nor") (Special 39) (Rd ∷ Rs ∷ Rt ∷ []) InRd
row_of Slt = row (codes "slt") (Special 42) (Rd ∷ Rs ∷ Rt ∷ []) InRd
row_of Sltu = row (codes "sltu") (Special 43) (Rd ∷ Rs ∷ Rt ∷ []) InRd
row_of Mul = row (codes "mul") (Special2 2) (Rd ∷ Rs ∷ Rt ∷ []) InRd
row_of Mulhi = row (codes "mulhi") (Special2 3) (Rd ∷ Rs ∷ Rt ∷ []) InRd
row_of Mulhu = row (codes "mulhu") (Special2 4) (Rd ∷ Rs ∷ Rt ∷ []) InRd
row_of Clz = row (codes "clz") (Special2 32) (Rd ∷ Rs ∷ []) InRd
row_of Popc = row (codes "popc") (Special2 34) (Rd ∷ Rs ∷ []) InRd
row_of Halt = row (codes "halt") (Special2 63) [] Nowhere
row_of Bltz = row (codes "bltz") (RegImm 0) (Rs ∷ Branch ∷ []) Nowhere
row_of Bgez = row (codes "bgez") (RegImm 1) (Rs ∷ Branch ∷ []) Nowhere
row_of Beq = row (codes "beq") (Plain 4) (Rs ∷ Rt ∷ Branch ∷ []) Nowhere
row_of Bne = row (codes "bne") (Plain 5) (Rs ∷ Rt ∷ Branch ∷ []) Nowhere
row_of Blez = row (codes "blez") (Plain 6) (Rs ∷ Branch ∷ []) Nowhere
row_of Bgtz = row (codes "bgtz") (Plain 7) (Rs ∷ Branch ∷ []) Nowhere
row_of Addiu = row (codes "addiu") (Plain 9) (Rt ∷ Rs ∷ Signed ∷ []) InRt
row_of Slti = row (codes "slti") (Plain 10) (Rt ∷ Rs ∷ Signed ∷ []) InRt
row_of Sltiu = row (codes "sltiu") (Plain 11) (Rt ∷ Rs ∷ Signed ∷ []) InRt
row_of Andi = row (codes "andi") (Plain 12) (Rt ∷ Rs ∷ Unsigned ∷ []) InRt
row_of Ori = row (codes "ori") (Plain 13) (Rt ∷ Rs ∷ Unsigned ∷ []) InRt
row_of Xori = row (codes "xori") (Plain 14) (Rt ∷ Rs ∷ Unsigned ∷ []) InRt
row_of Lui = row (codes "lui") (Plain 15) (Rt ∷ Unsigned ∷ []) InRt
row_of Lb = row (codes "lb") (Plain 32) (Rt ∷ Memory ∷ []) InRt
row_of Lh = row (codes "lh") (Plain 33) (Rt ∷ Memory ∷ []) InRt
row_of Lw = row (codes "lw") (Plain 35) (Rt ∷ Memory ∷ []) InRt
row_of Lbu = row (codes "lbu") (Plain 36) (Rt ∷ Memory ∷ []) InRt
row_of Lhu = row (codes "lhu") (Plain 37) (Rt ∷ Memory ∷ []) InRt
row_of Sb = row (codes "sb") (Plain 40) (Rt ∷ Memory ∷ []) Nowhere
row_of Sh = row (codes "sh") (Plain 41) (Rt ∷ Memory ∷ []) Nowhere
row_of Sw = row (codes "sw") (Plain 43) (Rt ∷ Memory ∷ []) Nowhere
row_of J = row (codes "j") (Plain 2) (Jump ∷ []) Nowhere
row_of Jal = row (codes "jal") (Plain 3) (Jump ∷ []) Link

-- all instructions, in the order of the table
abbrev pub all_ops : List TileOp
all_ops =
    Sll ∷ Srl ∷ Sra ∷ Sllv ∷ Srlv ∷ Srav ∷ Jr ∷ Jalr ∷ Addu ∷ Subu ∷ And ∷ Or ∷ Xor ∷ Nor ∷ Slt ∷ Sltu
    ∷ Mul ∷ Mulhi ∷ Mulhu ∷ Clz ∷ Popc ∷ Halt
    ∷ Bltz ∷ Bgez ∷ Beq ∷ Bne ∷ Blez ∷ Bgtz ∷ Addiu ∷ Slti ∷ Sltiu ∷ Andi ∷ Ori ∷ Xori ∷ Lui
    ∷ Lb ∷ Lh ∷ Lw ∷ Lbu ∷ Lhu ∷ Sb ∷ Sh ∷ Sw
    ∷ J ∷ Jal ∷ []

-- whether two opcodes are one
abbrev pub same_key : Opcode → Opcode → Bool
same_key (Special a) (Special b) = a == b
same_key (Special2 a) (Special2 b) = a == b
same_key (RegImm a) (RegImm b) = a == b
same_key (Plain a) (Plain b) = a == b
same_key _ _ = false

-- the first instruction with an opcode
unfoldable pub op_with : Opcode → Option TileOp
op_with key = find (λ op. same_key (row_of op).key key) all_ops

-- the first instruction of a name
unfoldable pub op_named : List ℕ → Option TileOp
op_named name = find (λ op. bytes_eq (row_of op).name name) all_ops
