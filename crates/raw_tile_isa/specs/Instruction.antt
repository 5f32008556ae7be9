-- An instruction with its operands, what it keeps, its word, and the registers that it names.
use Rattle.std.specs.Prelude.{◌≡◌, ℕ, ◌+◌, ◌*◌, ◌/◌, ◌%◌, ◌^◌, ◌<◌, ◌++◌, Bool, true, false, ◌&&◌, ◌||◌, not, ◌==◌, List, [], ◌∷◌, Option, Some, None, if◌then◌else◌}
use Rattle.std.specs.List.{list_any}
use Rattle.std.specs.Option.{option_and_then}
use Rattle.raw_tile_isa.specs.declared.table.TileOp.{TileOp}
use Rattle.raw_tile_isa.specs.declared.table.Operand.{Operand}
use Rattle.raw_tile_isa.specs.declared.table.Operand.TheVariants.{Rd, Rs, Rt, Shift, Signed, Unsigned, Branch, Jump, Memory}
use Rattle.raw_tile_isa.specs.declared.table.Opcode.{Opcode}
use Rattle.raw_tile_isa.specs.declared.table.Opcode.TheVariants.{Special, Special2, RegImm, Plain}
use Rattle.raw_tile_isa.specs.declared.table.Destination.{Destination}
use Rattle.raw_tile_isa.specs.declared.table.Destination.TheVariants.{Nowhere, InRd, InRt, Link}
use Rattle.raw_tile_isa.specs.declared.networks.TheConstants.{LINK, NETWORK_1, NETWORK_2}
use Rattle.raw_tile_isa.specs.Table.{row_of, op_with}

-- an instruction: its row, and the values of its fields
pub record Instruction : Type 0 where
  pub op : TileOp
  pub rs : ℕ
  pub rt : ℕ
  pub rd : ℕ
  pub sh : ℕ
  pub imm : ℕ
  pub target : ℕ

-- whether such an operand stands in the field rs
abbrev pub is_rs : Operand → Bool
is_rs Rs = true
is_rs Memory = true
is_rs _ = false

-- whether such an operand stands in the field rt
abbrev pub is_rt : Operand → Bool
is_rt Rt = true
is_rt _ = false

-- whether such an operand stands in the field rd
abbrev pub is_rd : Operand → Bool
is_rd Rd = true
is_rd _ = false

-- whether such an operand stands in the field sh
abbrev pub is_sh : Operand → Bool
is_sh Shift = true
is_sh _ = false

-- whether such an operand stands in the field imm
abbrev pub is_imm : Operand → Bool
is_imm Signed = true
is_imm Unsigned = true
is_imm Branch = true
is_imm Memory = true
is_imm _ = false

-- whether such an operand stands in the field target
abbrev pub is_target : Operand → Bool
is_target Jump = true
is_target _ = false

-- whether an operand of the instruction stands in a field
abbrev pub uses : (Operand → Bool) → TileOp → Bool
uses is_field op = list_any is_field (row_of op).operands

-- a field's value is below its limit where an operand stands in it, and else 0
abbrev pub IsField : Bool → ℕ → ℕ → Type 0
IsField true limit value = value < limit
IsField false limit value = value ≡ 0

-- each field of the instruction is as its row wants it
pub record IsTileIns (ins : Instruction) : Type 0 where
  pub rs : IsField (uses is_rs ins.op) 32 ins.rs
  pub rt : IsField (uses is_rt ins.op) 32 ins.rt
  pub rd : IsField (uses is_rd ins.op) 32 ins.rd
  pub sh : IsField (uses is_sh ins.op) 32 ins.sh
  pub imm : IsField (uses is_imm ins.op) (2 ^ 16) ins.imm
  pub target : IsField (uses is_target ins.op) (2 ^ 26) ins.target

-- an opcode's numbers at their places in the word: op from bit 26 on, rt from bit 16 on, fn from bit 0 on
abbrev pub key_word : Opcode → ℕ
key_word (Special fn) = fn
key_word (Special2 fn) = 28 * 2 ^ 26 + fn
key_word (RegImm rt) = 1 * 2 ^ 26 + rt * 2 ^ 16
key_word (Plain op) = op * 2 ^ 26

-- the word of an instruction: its opcode and each field's value at its place
unfoldable pub code_of : Instruction → ℕ
code_of ins =
    key_word (row_of ins.op).key + ins.rs * 2 ^ 21 + ins.rt * 2 ^ 16 + ins.rd * 2 ^ 11 + ins.sh * 2 ^ 6
    + ins.imm + ins.target

-- the word encodes the instruction
pub record TileCode (ins : Instruction) (word : ℕ) : Type 0 where
  pub rules : IsTileIns ins
  pub code : code_of ins ≡ word

-- the opcode that a word shows
abbrev pub key_at : ℕ → Opcode
key_at word =
    if word / 2 ^ 26 == 0 then Special (word % 2 ^ 6)
    else (if word / 2 ^ 26 == 28 then Special2 (word % 2 ^ 6)
    else (if word / 2 ^ 26 == 1 then RegImm (word / 2 ^ 16 % 2 ^ 5)
    else Plain (word / 2 ^ 26)))

-- the number below a limit that stands in a word from a bit on, or 0 where no operand stands there
abbrev pub bits_where : Bool → ℕ → ℕ → ℕ → ℕ
bits_where used word place limit = if used then word / 2 ^ place % limit else 0

-- an instruction with the operands that a word shows
abbrev pub fields_of : TileOp → ℕ → Instruction
fields_of op word = record {
  op = op;
  rs = bits_where (uses is_rs op) word 21 32;
  rt = bits_where (uses is_rt op) word 16 32;
  rd = bits_where (uses is_rd op) word 11 32;
  sh = bits_where (uses is_sh op) word 6 32;
  imm = bits_where (uses is_imm op) word 0 (2 ^ 16);
  target = bits_where (uses is_target op) word 0 (2 ^ 26);
}

-- the instruction that a word shows, where the word is its word: so a field that it does not use is 0
unfoldable pub decode_of : ℕ → Option Instruction
decode_of word =
    option_and_then
    (λ op. if code_of (fields_of op word) == word then Some (fields_of op word) else None)
    (op_with (key_at word))

-- whether a result goes to the register in the field rt
abbrev pub is_in_rt : Destination → Bool
is_in_rt InRt = true
is_in_rt _ = false

-- whether the instruction reads the register in the field rt: it stands in the text, and is not the destination
abbrev pub reads_rt : TileOp → Bool
reads_rt op = not (is_in_rt (row_of op).destination) && uses is_rt op

-- the registers that the instruction reads, that of rs before that of rt
abbrev pub source_registers : Instruction → List ℕ
source_registers ins =
    (if uses is_rs ins.op then ins.rs ∷ [] else []) ++ (if reads_rt ins.op then ins.rt ∷ [] else [])

-- the register that a destination names
abbrev pub register_at : Destination → Instruction → Option ℕ
register_at Nowhere ins = None
register_at InRd ins = Some ins.rd
register_at InRt ins = Some ins.rt
register_at Link ins = Some LINK

-- the register that the instruction writes, if it writes one
abbrev pub destination_register : Instruction → Option ℕ
destination_register ins = register_at (row_of ins.op).destination ins

-- whether a register's number stands for a network: 24 for network 1, 25 for network 2
abbrev pub is_network : ℕ → Bool
is_network register = (register == NETWORK_1) || (register == NETWORK_2)
