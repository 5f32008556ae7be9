-- The table of a tile's instructions: what each does to the tile, sends and touches.
use Rattle.std.specs.Prelude.{ℕ, ◌+◌, ◌-◌, ◌*◌, ◌%◌, ◌^◌, Bool, not, ◌||◌, ◌==◌, nat_lt, nat_le, pos, int_lt, bit_and, bit_or, bit_xor, Option, Some, None, List, [], ◌∷◌, length, slice_get, slice_set, slice_index, if◌then◌else◌}
use Rattle.std.specs.Int.{w16, w32, to_be_bytes, from_be_bytes}
use Rattle.raw_tile_isa.specs.declared.table.TileOp.{TileOp}
use Rattle.raw_tile_isa.specs.declared.table.TileOp.TheVariants.{Sll, Srl, Sra, Sllv, Srlv, Srav, Jr, Jalr, Addu, Subu, And, Or, Xor, Nor, Slt, Sltu, Mul, Mulhi, Mulhu, Clz, Popc, Halt, Bltz, Bgez, Beq, Bne, Blez, Bgtz, Addiu, Slti, Sltiu, Andi, Ori, Xori, Lui, Lb, Lh, Lw, Lbu, Lhu, Sb, Sh, Sw, J, Jal}
use Rattle.raw_tile_isa.specs.declared.networks.TheConstants.{LINK, NETWORK_1, NETWORK_2}
use Rattle.raw_tile_isa.specs.Instruction.{Instruction, is_network}
use Rattle.raw_tile_isa.specs.Words.{signed, word_add, word_sub, word_mul_low, word_mul_high, word_mul_high_unsigned, word_shift_left, word_shift_right, word_shift_right_signed, word_less, word_less_unsigned, word_leading_zeros, word_ones, sign_extended, sign_extended_byte}
use Rattle.raw_model.specs.declared.limits.TheConstants.{MEMORY_SIZE}
use Rattle.raw_model.specs.declared.marks.Mark.{Mark}
use Rattle.raw_model.specs.declared.marks.Mark.TheVariants.{Going, Halted, Trapped}
use Rattle.raw_model.specs.declared.marks.Cause.{Cause}
use Rattle.raw_model.specs.declared.marks.Cause.TheVariants.{Misaligned, PastMemory, Pc}
use Rattle.raw_model.specs.Local.{TileLocal}

-- what a row does: the local state after it, the value sent on network 1 and that on network 2, if
-- there is one, and the address touched, if there is one
pub record TileEffect : Type 0 where
  pub next : TileLocal
  pub sent1 : Option ℕ
  pub sent2 : Option ℕ
  pub touched : Option ℕ

-- the mark of a processor that goes on at this pc of a program of this size
abbrev pub mark_at : ℕ → ℕ → Mark
mark_at size pc = if nat_lt pc size then Going else Trapped Pc

-- the registers after a write: 0 and those of the networks store nothing
abbrev pub with_register : List ℕ → ℕ → ℕ → List ℕ
with_register regs register value = if (register == 0) || is_network register then regs else slice_set regs register value

-- the pc of the instruction that follows
abbrev pub following : TileLocal → ℕ
following l = (l.pc + 1) % 2 ^ 32

-- a write to a register sends the value where the register is that of the network
abbrev pub sent_by : ℕ → ℕ → ℕ → Option ℕ
sent_by network register value = if register == network then Some value else None

-- the tile after an instruction that goes on at this pc, in a program of this size
abbrev pub moved : ℕ → TileLocal → ℕ → TileLocal
moved size l pc = record l { pc = pc; count = l.count + 1; mark = mark_at size pc }

-- the tile goes on at this pc
abbrev pub goes : ℕ → TileLocal → ℕ → TileEffect
goes size l pc = record { next = moved size l pc; sent1 = None; sent2 = None; touched = None }

-- the value goes to the register, and the tile goes on at this pc
abbrev pub gives_at : ℕ → TileLocal → ℕ → ℕ → ℕ → Option ℕ → TileEffect
gives_at size l register value pc touched =
    record {
      next = record l { regs = with_register l.regs register value; pc = pc; count = l.count + 1; mark = mark_at size pc };
      sent1 = sent_by NETWORK_1 register value;
      sent2 = sent_by NETWORK_2 register value;
      touched = touched;
    }

-- the value goes to the register, and the instruction that follows is next
abbrev pub gives : ℕ → TileLocal → ℕ → ℕ → TileEffect
gives size l register value = gives_at size l register value (following l) None

-- the tile stops with this mark: only the count rises
abbrev pub stops : TileLocal → Mark → TileEffect
stops l mark = record { next = record l { count = l.count + 1; mark = mark }; sent1 = None; sent2 = None; touched = None }

-- a branch: the tile goes on as many instructions behind the next one as the immediate says, where
-- the test holds, else at the next one
abbrev pub branches : ℕ → TileLocal → Instruction → Bool → TileEffect
branches size l ins test = goes size l (if test then word_add (following l) (sign_extended ins.imm) else following l)

-- a word that is read as signed is below 0, or above it
abbrev pub is_below_zero : ℕ → Bool
is_below_zero word = int_lt (signed word) (pos 0)

abbrev pub is_above_zero : ℕ → Bool
is_above_zero word = int_lt (pos 0) (signed word)

-- the address of a load or a store
abbrev pub address_of : Instruction → ℕ → ℕ
address_of ins a = word_add a (sign_extended ins.imm)

-- why an access of so many bytes at an address is unlawful, if it is: the address is no multiple of
-- that number, or else the access reaches past the memory
abbrev pub access_fault : ℕ → ℕ → Option Cause
access_fault address bytes =
    if address % bytes == 0 then (if nat_le (address + bytes) MEMORY_SIZE then None else Some PastMemory) else Some Misaligned

-- an effect, or the trap where there is a fault: that sends and touches nothing
abbrev pub unless_fault : Option Cause → TileLocal → TileEffect → TileEffect
unless_fault None l effect = effect
unless_fault (Some cause) l effect = stops l (Trapped cause)

-- the half word and the word at an address: the byte at the lowest address is the highest
abbrev pub half_at : List ℕ → ℕ → ℕ
half_at memory address = from_be_bytes w16 (slice_index memory address ∷ slice_index memory (address + 1) ∷ [])

abbrev pub word_at : List ℕ → ℕ → ℕ
word_at memory address =
    from_be_bytes w32 (slice_index memory address ∷ slice_index memory (address + 1) ∷ slice_index memory (address + 2) ∷ slice_index memory (address + 3) ∷ [])

-- a load of so many bytes: the value goes to the register, and the address is touched
abbrev pub loads : ℕ → TileLocal → ℕ → ℕ → ℕ → ℕ → TileEffect
loads size l register address bytes value =
    unless_fault (access_fault address bytes) l (gives_at size l register value (following l) (Some address))

-- the memory after bytes are stored from an address on
abbrev pub stored : List ℕ → ℕ → List ℕ → List ℕ
stored memory address [] = memory
stored memory address (byte ∷ bytes) = stored (slice_set memory address byte) (address + 1) bytes

-- a store of these bytes: the address is touched
abbrev pub stores : ℕ → TileLocal → ℕ → List ℕ → TileEffect
stores size l address bytes =
    unless_fault
    (access_fault address (length bytes))
    l
    (record {
      next = record l { memory = stored l.memory address bytes; pc = following l; count = l.count + 1; mark = mark_at size (following l) };
      sent1 = None;
      sent2 = None;
      touched = Some address;
    })

-- the row of an instruction in a program of this size; `a` is the value at rs and `b` that at rt
abbrev pub row_effect : TileOp → ℕ → TileLocal → Instruction → ℕ → ℕ → TileEffect
row_effect Sll size l ins a b = gives size l ins.rd (word_shift_left b ins.sh)
row_effect Srl size l ins a b = gives size l ins.rd (word_shift_right b ins.sh)
row_effect Sra size l ins a b = gives size l ins.rd (word_shift_right_signed b ins.sh)
row_effect Sllv size l ins a b = gives size l ins.rd (word_shift_left b a)
row_effect Srlv size l ins a b = gives size l ins.rd (word_shift_right b a)
row_effect Srav size l ins a b = gives size l ins.rd (word_shift_right_signed b a)
row_effect Jr size l ins a b = goes size l a
row_effect Jalr size l ins a b = gives_at size l ins.rd (following l) a None
row_effect Addu size l ins a b = gives size l ins.rd (word_add a b)
row_effect Subu size l ins a b = gives size l ins.rd (word_sub a b)
row_effect And size l ins a b = gives size l ins.rd (bit_and a b)
row_effect Or size l ins a b = gives size l ins.rd (bit_or a b)
row_effect Xor size l ins a b = gives size l ins.rd (bit_xor a b)
row_effect Nor size l ins a b = gives size l ins.rd (2 ^ 32 - 1 - bit_or a b)
row_effect Slt size l ins a b = gives size l ins.rd (word_less a b)
row_effect Sltu size l ins a b = gives size l ins.rd (word_less_unsigned a b)
row_effect Mul size l ins a b = gives size l ins.rd (word_mul_low a b)
row_effect Mulhi size l ins a b = gives size l ins.rd (word_mul_high a b)
row_effect Mulhu size l ins a b = gives size l ins.rd (word_mul_high_unsigned a b)
row_effect Clz size l ins a b = gives size l ins.rd (word_leading_zeros a)
row_effect Popc size l ins a b = gives size l ins.rd (word_ones a)
row_effect Halt size l ins a b = stops l Halted
row_effect Bltz size l ins a b = branches size l ins (is_below_zero a)
row_effect Bgez size l ins a b = branches size l ins (not (is_below_zero a))
row_effect Beq size l ins a b = branches size l ins (a == b)
row_effect Bne size l ins a b = branches size l ins (not (a == b))
row_effect Blez size l ins a b = branches size l ins (not (is_above_zero a))
row_effect Bgtz size l ins a b = branches size l ins (is_above_zero a)
row_effect Addiu size l ins a b = gives size l ins.rt (word_add a (sign_extended ins.imm))
row_effect Slti size l ins a b = gives size l ins.rt (word_less a (sign_extended ins.imm))
row_effect Sltiu size l ins a b = gives size l ins.rt (word_less_unsigned a (sign_extended ins.imm))
row_effect Andi size l ins a b = gives size l ins.rt (bit_and a ins.imm)
row_effect Ori size l ins a b = gives size l ins.rt (bit_or a ins.imm)
row_effect Xori size l ins a b = gives size l ins.rt (bit_xor a ins.imm)
row_effect Lui size l ins a b = gives size l ins.rt (ins.imm * 2 ^ 16)
row_effect Lb size l ins a b = loads size l ins.rt (address_of ins a) 1 (sign_extended_byte (slice_index l.memory (address_of ins a)))
row_effect Lh size l ins a b = loads size l ins.rt (address_of ins a) 2 (sign_extended (half_at l.memory (address_of ins a)))
row_effect Lw size l ins a b = loads size l ins.rt (address_of ins a) 4 (word_at l.memory (address_of ins a))
row_effect Lbu size l ins a b = loads size l ins.rt (address_of ins a) 1 (slice_index l.memory (address_of ins a))
row_effect Lhu size l ins a b = loads size l ins.rt (address_of ins a) 2 (half_at l.memory (address_of ins a))
row_effect Sb size l ins a b = stores size l (address_of ins a) (b % 2 ^ 8 ∷ [])
row_effect Sh size l ins a b = stores size l (address_of ins a) (to_be_bytes w16 (b % 2 ^ 16))
row_effect Sw size l ins a b = stores size l (address_of ins a) (to_be_bytes w32 b)
row_effect J size l ins a b = goes size l ins.target
row_effect Jal size l ins a b = gives_at size l LINK (following l) ins.target None

-- the instruction that is next; none where the pc is past the program
abbrev pub next_instruction : List Instruction → TileLocal → Option Instruction
next_instruction code l = slice_get code l.pc

-- the row of the instruction, if there is one
abbrev pub effect_of : Option Instruction → ℕ → TileLocal → ℕ → ℕ → TileEffect
effect_of None size l a b = stops l (Trapped Pc)
effect_of (Some ins) size l a b = row_effect ins.op size l ins a b

-- the effect of the instruction at the tile's pc, with the operands `a` and `b`
abbrev pub tile_row : List Instruction → TileLocal → ℕ → ℕ → TileEffect
tile_row code l a b = effect_of (next_instruction code l) (length code) l a b
