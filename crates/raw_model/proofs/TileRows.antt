-- A row of a tile's table keeps the tile within its ranges, and sends words.
use Rattle.std.proofs.Common.{◌≡◌, ℕ, ◌%◌, ◌^◌, ◌<◌, Bool, true, false, not, cond, eqb, nat_lt, List, [], ◌∷◌, length, Option, Some, None, refl, ◌∙◌, arith}
use Rattle.std.specs.Prelude.{slice_index}
use Rattle.std.specs.Int.{w16, w32, to_be_bytes}
use Rattle.std.specs.Int.Bits.{and_lt}
use Rattle.std.specs.List.{All}
use Rattle.std.proofs.lemmas.Bool.{ltb-true}
use Rattle.std.proofs.lemmas.List.Elements.{All-nil, All-cons}
use Rattle.std.proofs.lemmas.Nat.{or_lt, xor_lt}
use Rattle.raw_tile_isa.specs.declared.table.TileOp.{TileOp}
use Rattle.raw_tile_isa.specs.declared.table.TileOp.TheVariants.{Sll, Srl, Sra, Sllv, Srlv, Srav, Jr, Jalr, Addu, Subu, And, Or, Xor, Nor, Slt, Sltu, Mul, Mulhi, Mulhu, Clz, Popc, Halt, Bltz, Bgez, Beq, Bne, Blez, Bgtz, Addiu, Slti, Sltiu, Andi, Ori, Xori, Lui, Lb, Lh, Lw, Lbu, Lhu, Sb, Sh, Sw, J, Jal}
use Rattle.raw_tile_isa.specs.Instruction.{Instruction, IsTileIns, IsField, uses, is_sh, is_imm, is_target}
use Rattle.raw_tile_isa.specs.Words.{sign_extended, sign_extended_byte, word_add}
use Rattle.raw_tile_isa.proofs.WordLimits.{give_words, extend}
use Rattle.raw_model.specs.declared.marks.Mark.{Mark}
use Rattle.raw_model.specs.declared.marks.Mark.TheVariants.{Going, Halted, Trapped}
use Rattle.raw_model.specs.declared.marks.Cause.{Cause}
use Rattle.raw_model.specs.declared.marks.Cause.TheVariants.{Pc}
use Rattle.raw_model.specs.Local.{TileLocal}
use Rattle.raw_model.specs.TileTable.{TileEffect, mark_at, sent_by, following, goes, gives_at, stops, branches, address_of, access_fault, unless_fault, half_at, word_at, loads, stores, is_below_zero, is_above_zero, row_effect, effect_of}
use Rattle.raw_model.specs.Start.{memory_size}
use Rattle.raw_model.proofs.Words.{IsWordIf, AreRegisters, registers_written, byte_in, half_below, word_below, bytes_of_half, bytes_of_word, length-stored, bytes_stored}

-- what a row finds of its tile
pub record IsTile (l : TileLocal) : Type 0 where
  pub registers : AreRegisters l.regs
  pub pc : l.pc < 2 ^ 32
  pub memory : length l.memory ≡ memory_size
  pub bytes : All (λ byte. byte < 256) l.memory

-- what it leaves, in a program of this size
pub record IsSound (size : ℕ) (effect : TileEffect) : Type 0 where
  pub tile : IsTile effect.next
  pub inside : effect.next.mark ≡ Going → effect.next.pc < size
  pub sent1 : IsWordIf effect.sent1
  pub sent2 : IsWordIf effect.sent2

-- the fields of an instruction of which rows make values
pub record HasFields (op : TileOp) (ins : Instruction) : Type 0 where
  pub sh : IsField (uses is_sh op) 32 ins.sh
  pub imm : IsField (uses is_imm op) (2 ^ 16) ins.imm
  pub target : IsField (uses is_target op) (2 ^ 26) ins.target

-- a processor that goes on is inside its program
pub going_inside : (size pc : ℕ) → mark_at size pc ≡ Going → pc < size
going_inside size pc e = ltb-true pc size (chosen (nat_lt pc size) e)
  where
    chosen : (b : Bool) → cond b Going (Trapped Pc) ≡ Going → b ≡ true
    chosen true e = refl
    chosen false e = cc e

sent_word : (network register value : ℕ) → value < 2 ^ 32 → IsWordIf (sent_by network register value)
sent_word network register value word = by_test (eqb register network)
  where
    by_test : (b : Bool) → IsWordIf (cond b (Some value) None)
    by_test true = word
    by_test false = tt

-- one of two words
pub either_below : (b : Bool) (n m : ℕ) → n < 2 ^ 32 → m < 2 ^ 32 → cond b n m < 2 ^ 32
either_below true n m h g = h
either_below false n m h g = g

module _ (size : ℕ) (l : TileLocal) (is : IsTile l) where
  sound_stops : (mark : Mark) → (mark ≡ Going → ⊥) → IsSound size (stops l mark)
  sound_stops mark ended =
      record {
        tile = record { registers = is.registers; pc = is.pc; memory = is.memory; bytes = is.bytes };
        inside = λ e. absurd (ended e);
        sent1 = tt;
        sent2 = tt;
      }

  sound_goes : (pc : ℕ) → pc < 2 ^ 32 → IsSound size (goes size l pc)
  sound_goes pc below =
      record {
        tile = record { registers = is.registers; pc = below; memory = is.memory; bytes = is.bytes };
        inside = going_inside size pc;
        sent1 = tt;
        sent2 = tt;
      }

  sound_gives : (register value pc : ℕ) (touched : Option ℕ) → value < 2 ^ 32 → pc < 2 ^ 32
      → IsSound size (gives_at size l register value pc touched)
  sound_gives register value pc touched word below =
      record {
        tile = record { registers = registers_written l.regs register value is.registers word; pc = below; memory = is.memory; bytes = is.bytes };
        inside = going_inside size pc;
        sent1 = sent_word 24 register value word;
        sent2 = sent_word 25 register value word;
      }

  sound_unless : (fault : Option Cause) (effect : TileEffect) → IsSound size effect → IsSound size (unless_fault fault l effect)
  sound_unless None effect sound = sound
  sound_unless (Some cause) effect sound = sound_stops (Trapped cause) (λ e. cc e)

  -- the pc that follows
  following_below : following l < 2 ^ 32
  following_below = omega arith

  -- a value for the instruction that follows
  sound_next : (register value : ℕ) → value < 2 ^ 32 → IsSound size (gives_at size l register value (following l) None)
  sound_next register value word = sound_gives register value (following l) None word following_below

  sound_branches : (ins : Instruction) (test : Bool) → IsSound size (branches size l ins test)
  sound_branches ins test =
      sound_goes _ (either_below test (word_add (following l) (sign_extended ins.imm)) (following l) (omega arith) following_below)

  sound_loads : (register address bytes value : ℕ) → value < 2 ^ 32 → IsSound size (loads size l register address bytes value)
  sound_loads register address bytes value word =
      sound_unless (access_fault address bytes) (gives_at size l register value (following l) (Some address))
      (sound_gives register value (following l) (Some address) word following_below)

  sound_stores : (address : ℕ) (bytes : List ℕ) → All (λ byte. byte < 256) bytes → IsSound size (stores size l address bytes)
  sound_stores address bytes are =
      sound_unless (access_fault address (length bytes)) _
      (record {
        tile = record {
          registers = is.registers;
          pc = following_below;
          memory = length-stored l.memory address bytes ∙ is.memory;
          bytes = bytes_stored l.memory address bytes is.bytes are;
        };
        inside = going_inside size (following l);
        sent1 = tt;
        sent2 = tt;
      })

  -- the immediate as a half word, and extended
  half_imm : (ins : Instruction) → ins.imm < 2 ^ 16 → sign_extended ins.imm < 2 ^ 32
  half_imm ins h = extend.half ins.imm h

  one_byte : (b : ℕ) → All (λ byte. byte < 256) (b % 2 ^ 8 ∷ [])
  one_byte b = All-cons (λ byte. byte < 256) (b % 2 ^ 8) [] (omega arith) (All-nil (λ byte. byte < 256))

  -- each row of the table
  row_sound : (op : TileOp) (ins : Instruction) (a b : ℕ) → a < 2 ^ 32 → b < 2 ^ 32 → HasFields op ins
      → IsSound size (row_effect op size l ins a b)
  row_sound Sll ins a b ha hb f = sound_next ins.rd _ (give_words b ins.sh hb (let h : ins.sh < 32 = f.sh in omega arith)).shift_left
  row_sound Srl ins a b ha hb f = sound_next ins.rd _ (give_words b ins.sh hb (let h : ins.sh < 32 = f.sh in omega arith)).shift_right
  row_sound Sra ins a b ha hb f = sound_next ins.rd _ (give_words b ins.sh hb (let h : ins.sh < 32 = f.sh in omega arith)).shift_right_signed
  row_sound Sllv ins a b ha hb f = sound_next ins.rd _ (give_words b a hb ha).shift_left
  row_sound Srlv ins a b ha hb f = sound_next ins.rd _ (give_words b a hb ha).shift_right
  row_sound Srav ins a b ha hb f = sound_next ins.rd _ (give_words b a hb ha).shift_right_signed
  row_sound Jr ins a b ha hb f = sound_goes a ha
  row_sound Jalr ins a b ha hb f = sound_gives ins.rd (following l) a None following_below ha
  row_sound Addu ins a b ha hb f = sound_next ins.rd _ (give_words a b ha hb).add
  row_sound Subu ins a b ha hb f = sound_next ins.rd _ (give_words a b ha hb).sub
  row_sound And ins a b ha hb f = sound_next ins.rd _ (and_lt 32 a b ha hb)
  row_sound Or ins a b ha hb f = sound_next ins.rd _ (or_lt 32 a b ha hb)
  row_sound Xor ins a b ha hb f = sound_next ins.rd _ (xor_lt 32 a b ha hb)
  row_sound Nor ins a b ha hb f = sound_next ins.rd _ (omega arith)
  row_sound Slt ins a b ha hb f = sound_next ins.rd _ (give_words a b ha hb).less
  row_sound Sltu ins a b ha hb f = sound_next ins.rd _ (give_words a b ha hb).less_unsigned
  row_sound Mul ins a b ha hb f = sound_next ins.rd _ (give_words a b ha hb).mul_low
  row_sound Mulhi ins a b ha hb f = sound_next ins.rd _ (give_words a b ha hb).mul_high
  row_sound Mulhu ins a b ha hb f = sound_next ins.rd _ (give_words a b ha hb).mul_high_unsigned
  row_sound Clz ins a b ha hb f = sound_next ins.rd _ (give_words a b ha hb).leading_zeros
  row_sound Popc ins a b ha hb f = sound_next ins.rd _ (give_words a b ha hb).ones
  row_sound Halt ins a b ha hb f = sound_stops Halted (λ e. cc e)
  row_sound Bltz ins a b ha hb f = sound_branches ins (is_below_zero a)
  row_sound Bgez ins a b ha hb f = sound_branches ins (not (is_below_zero a))
  row_sound Beq ins a b ha hb f = sound_branches ins (eqb a b)
  row_sound Bne ins a b ha hb f = sound_branches ins (not (eqb a b))
  row_sound Blez ins a b ha hb f = sound_branches ins (not (is_above_zero a))
  row_sound Bgtz ins a b ha hb f = sound_branches ins (is_above_zero a)
  row_sound Addiu ins a b ha hb f = sound_next ins.rt _ (give_words a (sign_extended ins.imm) ha (half_imm ins f.imm)).add
  row_sound Slti ins a b ha hb f = sound_next ins.rt _ (give_words a (sign_extended ins.imm) ha (half_imm ins f.imm)).less
  row_sound Sltiu ins a b ha hb f = sound_next ins.rt _ (give_words a (sign_extended ins.imm) ha (half_imm ins f.imm)).less_unsigned
  row_sound Andi ins a b ha hb f = sound_next ins.rt _ (and_lt 32 a ins.imm ha (let h : ins.imm < 2 ^ 16 = f.imm in omega arith))
  row_sound Ori ins a b ha hb f = sound_next ins.rt _ (or_lt 32 a ins.imm ha (let h : ins.imm < 2 ^ 16 = f.imm in omega arith))
  row_sound Xori ins a b ha hb f = sound_next ins.rt _ (xor_lt 32 a ins.imm ha (let h : ins.imm < 2 ^ 16 = f.imm in omega arith))
  row_sound Lui ins a b ha hb f = sound_next ins.rt _ (let h : ins.imm < 2 ^ 16 = f.imm in omega arith)
  row_sound Lb ins a b ha hb f =
      sound_loads ins.rt (address_of ins a) 1 (sign_extended_byte (slice_index l.memory (address_of ins a)))
      (extend.byte (slice_index l.memory (address_of ins a)) (byte_in l.memory (address_of ins a) is.bytes))
  row_sound Lh ins a b ha hb f =
      sound_loads ins.rt (address_of ins a) 2 (sign_extended (half_at l.memory (address_of ins a)))
      (extend.half (half_at l.memory (address_of ins a)) (half_below l.memory is.bytes (address_of ins a)))
  row_sound Lw ins a b ha hb f =
      sound_loads ins.rt (address_of ins a) 4 (word_at l.memory (address_of ins a)) (word_below l.memory is.bytes (address_of ins a))
  row_sound Lbu ins a b ha hb f =
      sound_loads ins.rt (address_of ins a) 1 (slice_index l.memory (address_of ins a))
      (let h = byte_in l.memory (address_of ins a) is.bytes in omega arith)
  row_sound Lhu ins a b ha hb f =
      sound_loads ins.rt (address_of ins a) 2 (half_at l.memory (address_of ins a))
      (let h = half_below l.memory is.bytes (address_of ins a) in omega arith)
  row_sound Sb ins a b ha hb f = sound_stores (address_of ins a) (b % 2 ^ 8 ∷ []) (one_byte b)
  row_sound Sh ins a b ha hb f = sound_stores (address_of ins a) (to_be_bytes w16 (b % 2 ^ 16)) (bytes_of_half (b % 2 ^ 16))
  row_sound Sw ins a b ha hb f = sound_stores (address_of ins a) (to_be_bytes w32 b) (bytes_of_word b)
  row_sound J ins a b ha hb f = sound_goes ins.target (let h : ins.target < 2 ^ 26 = f.target in omega arith)
  row_sound Jal ins a b ha hb f =
      sound_gives 31 (following l) ins.target None following_below (let h : ins.target < 2 ^ 26 = f.target in omega arith)

  -- the effect of the instruction that is next, if there is one
  pub effect_sound : (o : Option Instruction) (a b : ℕ) → ((ins : Instruction) → o ≡ Some ins → IsTileIns ins)
      → a < 2 ^ 32 → b < 2 ^ 32 → IsSound size (effect_of o size l a b)
  effect_sound None a b lawful ha hb = sound_stops (Trapped Pc) (λ e. cc e)
  effect_sound (Some ins) a b lawful ha hb =
      let rules = lawful ins refl in
      row_sound ins.op ins a b ha hb (record { sh = rules.sh; imm = rules.imm; target = rules.target })
