-- What each row of a tile's table does, whatever its operands: the count rises by 1, and the value that it
-- sends goes to the network of the register that it writes.
use Rattle.std.proofs.Common.{◌≡◌, ℕ, ◌+◌, ◌%◌, ◌^◌, Bool, true, false, cond, eqb, nat_lt, List, [], ◌∷◌, length, Option, Some, None, refl, sym, ap, ◌⊎◌, inl, inr}
use Rattle.std.specs.Prelude.{nat_le, slice_index}
use Rattle.std.specs.Int.{w16, w32, to_be_bytes}
use Rattle.raw_tile_isa.specs.declared.table.TileOp.{TileOp}
use Rattle.raw_tile_isa.specs.declared.table.TileOp.TheVariants.{Jr, Halt, Bltz, Bgez, Beq, Bne, Blez, Bgtz, Lb, Lh, Lw, Lbu, Lhu, Sb, Sh, Sw, J}
use Rattle.raw_tile_isa.specs.Table.{row_of}
use Rattle.raw_tile_isa.specs.Instruction.{Instruction, register_at}
use Rattle.raw_tile_isa.specs.Words.{sign_extended, sign_extended_byte}
use Rattle.raw_model.specs.declared.marks.Cause.{Cause}
use Rattle.raw_model.specs.declared.marks.Cause.TheVariants.{Misaligned, PastMemory, Pc}
use Rattle.raw_model.specs.declared.marks.Mark.TheVariants.{Going, Halted, Trapped}
use Rattle.raw_model.specs.Local.{TileLocal}
use Rattle.raw_model.specs.TileTable.{TileEffect, mark_at, sent_by, following, goes, gives_at, stops, address_of, access_fault, unless_fault, half_at, word_at, loads, stores, row_effect}
use Rattle.raw_model.specs.Needs.{is_address_cause, is_address_trap}

-- nothing is sent
pub record SendsNothing (effect : TileEffect) : Type 0 where
  pub sent1 : effect.sent1 ≡ None
  pub sent2 : effect.sent2 ≡ None

-- a value is sent by the register that is written
pub record SendsBy (destination : Option ℕ) (effect : TileEffect) : Type 0 where
  pub register : ℕ
  pub value : ℕ
  pub named : destination ≡ Some register
  pub sent1 : effect.sent1 ≡ sent_by 24 register value
  pub sent2 : effect.sent2 ≡ sent_by 25 register value

-- nothing is sent, as no register is written
pub record WritesNone (destination : Option ℕ) (effect : TileEffect) : Type 0 where
  pub named : destination ≡ None
  pub nothing : SendsNothing effect

-- the row is that of an unlawful address, and sends nothing
pub record IsTrapRow (effect : TileEffect) : Type 0 where
  pub mark : is_address_trap effect.next.mark ≡ true
  pub nothing : SendsNothing effect

-- the row is done in full, and sends what its register says
pub record IsFullRow (destination : Option ℕ) (effect : TileEffect) : Type 0 where
  pub mark : is_address_trap effect.next.mark ≡ false
  pub sends : WritesNone destination effect ⊎ SendsBy destination effect

-- what a row does that writes to this register, if to one
pub record IsRow (l : TileLocal) (destination : Option ℕ) (effect : TileEffect) : Type 0 where
  pub count : effect.next.count ≡ l.count + 1
  pub sends : IsTrapRow effect ⊎ IsFullRow destination effect

-- a pc past the program is no unlawful address
pub no_address_trap : (size pc : ℕ) → is_address_trap (mark_at size pc) ≡ false
no_address_trap size pc = from (nat_lt pc size)
  where
    from : (b : Bool) → is_address_trap (cond b Going (Trapped Pc)) ≡ false
    from true = refl
    from false = refl

row_goes : (size : ℕ) (l : TileLocal) (pc : ℕ) → IsRow l None (goes size l pc)
row_goes size l pc = record {
  count = refl;
  sends = inr (record {
    mark = no_address_trap size pc;
    sends = inl (record { named = refl; nothing = record { sent1 = refl; sent2 = refl } });
  });
}

row_halts : (l : TileLocal) → IsRow l None (stops l Halted)
row_halts l = record {
  count = refl;
  sends = inr (record { mark = refl; sends = inl (record { named = refl; nothing = record { sent1 = refl; sent2 = refl } }) });
}

row_gives : (size : ℕ) (l : TileLocal) (register value pc : ℕ) (touched : Option ℕ)
    → IsRow l (Some register) (gives_at size l register value pc touched)
row_gives size l register value pc touched = record {
  count = refl;
  sends = inr (record {
    mark = no_address_trap size pc;
    sends = inr (record { register = register; value = value; named = refl; sent1 = refl; sent2 = refl });
  });
}

-- an access is unlawful by its address alone
fault_cause : (address bytes : ℕ) (cause : Cause) → access_fault address bytes ≡ Some cause → is_address_cause cause ≡ true
fault_cause address bytes cause e = from (eqb (address % bytes) 0) (nat_le (address + bytes) (2 ^ 16)) e
  where
    from : (b c : Bool) → cond b (cond c None (Some PastMemory)) (Some Misaligned) ≡ Some cause → is_address_cause cause ≡ true
    from true true is = absurd (cc is)
    from true false is = let same : PastMemory ≡ cause = cc is in sym (ap is_address_cause same)
    from false c is = let same : Misaligned ≡ cause = cc is in sym (ap is_address_cause same)

row_unless : (l : TileLocal) (destination : Option ℕ) (fault : Option Cause) (effect : TileEffect)
    → ((cause : Cause) → fault ≡ Some cause → is_address_cause cause ≡ true)
    → IsRow l destination effect → IsRow l destination (unless_fault fault l effect)
row_unless l destination None effect by_address is = is
row_unless l destination (Some cause) effect by_address is = record {
  count = refl;
  sends = inl (record { mark = by_address cause refl; nothing = record { sent1 = refl; sent2 = refl } });
}

row_loads : (size : ℕ) (l : TileLocal) (register address bytes value : ℕ)
    → IsRow l (Some register) (loads size l register address bytes value)
row_loads size l register address bytes value =
    row_unless l (Some register) (access_fault address bytes) (gives_at size l register value (following l) (Some address))
    (fault_cause address bytes) (row_gives size l register value (following l) (Some address))

row_stores : (size : ℕ) (l : TileLocal) (address : ℕ) (bytes : List ℕ) → IsRow l None (stores size l address bytes)
row_stores size l address bytes =
    row_unless l None (access_fault address (length bytes)) _ (fault_cause address (length bytes))
    (record {
      count = refl;
      sends = inr (record {
        mark = no_address_trap size (following l);
        sends = inl (record { named = refl; nothing = record { sent1 = refl; sent2 = refl } });
      });
    })

-- each row of the table
pub row_is : (op : TileOp) (size : ℕ) (l : TileLocal) (ins : Instruction) (a b : ℕ)
    → IsRow l (register_at (row_of op).destination ins) (row_effect op size l ins a b)
row_is Jr size l ins a b = row_goes size l _
row_is Halt size l ins a b = row_halts l
row_is Bltz size l ins a b = row_goes size l _
row_is Bgez size l ins a b = row_goes size l _
row_is Beq size l ins a b = row_goes size l _
row_is Bne size l ins a b = row_goes size l _
row_is Blez size l ins a b = row_goes size l _
row_is Bgtz size l ins a b = row_goes size l _
row_is Lb size l ins a b = row_loads size l ins.rt (address_of ins a) 1 (sign_extended_byte (slice_index l.memory (address_of ins a)))
row_is Lh size l ins a b = row_loads size l ins.rt (address_of ins a) 2 (sign_extended (half_at l.memory (address_of ins a)))
row_is Lw size l ins a b = row_loads size l ins.rt (address_of ins a) 4 (word_at l.memory (address_of ins a))
row_is Lbu size l ins a b = row_loads size l ins.rt (address_of ins a) 1 (slice_index l.memory (address_of ins a))
row_is Lhu size l ins a b = row_loads size l ins.rt (address_of ins a) 2 (half_at l.memory (address_of ins a))
row_is Sb size l ins a b = row_stores size l (address_of ins a) (b % 2 ^ 8 ∷ [])
row_is Sh size l ins a b = row_stores size l (address_of ins a) (to_be_bytes w16 (b % 2 ^ 16))
row_is Sw size l ins a b = row_stores size l (address_of ins a) (to_be_bytes w32 b)
row_is J size l ins a b = row_goes size l _
row_is _ size l ins a b = row_gives size l _ _ _ _
