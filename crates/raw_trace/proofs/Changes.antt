-- What a row changes of registers and memory is what the line of its step tells.
use Rattle.std.proofs.Common.{◌≡◌, ℕ, ◌+◌, ◌*◌, ◌%◌, ◌^◌, ◌<◌, ◌≤◌, Bool, true, false, cond, eqb, ◌||◌, List, [], ◌∷◌, ◌++◌, length, set, Option, Some, None, ◌⊎◌, inl, inr, refl, sym, ap, ◌∙◌, ⊎_elim, arith}
use Rattle.std.specs.Prelude.{slice_index, nat_le}
use Rattle.std.specs.Int.{w16, w32, to_be_bytes, from_be_bytes}
use Rattle.std.specs.List.{flat_map}
use Rattle.std.proofs.lemmas.Bool.{cases_eq, cases_lt, eq-eqb, ne_eqb, eqb-true}
use Rattle.std.proofs.lemmas.List.{get_or-set_other}
use Rattle.raw_tile_isa.specs.declared.table.TileOp.{TileOp}
use Rattle.raw_tile_isa.specs.declared.table.TileOp.TheVariants.{Sll, Srl, Sra, Sllv, Srlv, Srav, Jr, Jalr, Addu, Subu, And, Or, Xor, Nor, Slt, Sltu, Mul, Mulhi, Mulhu, Clz, Popc, Halt, Bltz, Bgez, Beq, Bne, Blez, Bgtz, Addiu, Slti, Sltiu, Andi, Ori, Xori, Lui, Lb, Lh, Lw, Lbu, Lhu, Sb, Sh, Sw, J, Jal}
use Rattle.raw_tile_isa.specs.Table.{row_of}
use Rattle.raw_tile_isa.specs.Instruction.{Instruction, register_at, is_network}
use Rattle.raw_tile_isa.specs.Words.{sign_extended, sign_extended_byte}
use Rattle.raw_switch_isa.specs.declared.table.SwitchOp.{SwitchOp}
use Rattle.raw_switch_isa.specs.declared.table.SwitchOp.TheVariants as switch_op
use Rattle.raw_switch_isa.specs.Instruction.{SwitchInstruction}
use Rattle.raw_model.specs.declared.marks.Cause.{Cause}
use Rattle.raw_model.specs.declared.marks.Cause.TheVariants.{Misaligned, PastMemory}
use Rattle.raw_model.specs.declared.marks.Mark.TheVariants.{Halted, Trapped}
use Rattle.raw_model.specs.Local.{TileLocal, SwitchLocal}
use Rattle.raw_model.specs.Needs.{is_address_trap}
use Rattle.raw_model.specs.TileTable.{TileEffect, with_register, following, goes, gives_at, stops, address_of, access_fault, unless_fault, half_at, word_at, stored, loads, stores, row_effect, effect_of}
use Rattle.raw_model.specs.SwitchTable.{control, effect_of as switch_effect_of}
use Rattle.raw_model.proofs.Rows.{no_address_trap}
use Rattle.raw_trace.specs.Firing.{kept_register, tile_register, switch_written, switch_register, is_store, is_store_next, word_address, register_entries, access_entries}
use Rattle.raw_trace.specs.Reading.{register_told, word_told, last_word}

-- a register that is told holds what is told, and one that is not told holds what it held
pub told_register : (old new : List ℕ) (o : Option ℕ) (r : ℕ) → ((o ≡ Some r → ⊥) → slice_index new r ≡ slice_index old r)
    → last_word (slice_index old r) (flat_map (register_told r) (register_entries new o)) ≡ slice_index new r
told_register old new None r kept = sym (kept (λ e. cc e))
told_register old new (Some q) r kept =
    ⊎_elim
    (λ (here : q ≡ r). ap (λ b. last_word (slice_index old r) (cond b (slice_index new q ∷ []) [] ++ [])) (eq-eqb q r here) ∙ ap (slice_index new) here)
    (λ (ne : q ≡ r → ⊥).
    ap (λ b. last_word (slice_index old r) (cond b (slice_index new q ∷ []) [] ++ [])) (ne_eqb q r ne) ∙ sym (kept (λ e. ne (same q r e))))
    (cases_eq q r)
  where
    same : (a b : ℕ) → Some a ≡ Some b → a ≡ b
    same a b e = cc e

-- a load tells no word
untold : (memory : List ℕ) (touched : Option ℕ) (at : ℕ) → flat_map (word_told at) (access_entries false memory touched) ≡ []
untold memory None at = refl
untold memory (Some address) at = refl

-- bytes that are stored elsewhere
stored_other : (memory : List ℕ) (address : ℕ) (bytes : List ℕ) (j : ℕ) → (j < address) ⊎ (address + length bytes ≤ j)
    → slice_index (stored memory address bytes) j ≡ slice_index memory j
stored_other memory address [] j apart = refl
stored_other memory address (byte ∷ bytes) j apart =
    stored_other (set memory address byte) (address + 1) bytes j
    (⊎_elim (λ (low : j < address). inl (omega (arith, low))) (λ (high : address + length (byte ∷ bytes) ≤ j). inr (omega (arith, high))) apart)
    ∙ get_or-set_other memory address j byte 0
    (λ e. ⊎_elim (λ (low : j < address). absurd (omega (arith, low, e))) (λ (high : address + length (byte ∷ bytes) ≤ j). absurd (omega (arith, high, e))) apart)

word_same : (new old : List ℕ) (a : ℕ) → ((j : ℕ) → a ≤ j → j < a + 4 → slice_index new j ≡ slice_index old j) → word_at new a ≡ word_at old a
word_same new old a each =
    ap (λ x. from_be_bytes w32 (x ∷ (slice_index new (a + 1) ∷ (slice_index new (a + 2) ∷ (slice_index new (a + 3) ∷ []))))) (each a (omega arith) (omega arith))
    ∙ ap (λ x. from_be_bytes w32 (slice_index old a ∷ (x ∷ (slice_index new (a + 2) ∷ (slice_index new (a + 3) ∷ []))))) (each (a + 1) (omega arith) (omega arith))
    ∙ ap (λ x. from_be_bytes w32 (slice_index old a ∷ (slice_index old (a + 1) ∷ (x ∷ (slice_index new (a + 3) ∷ []))))) (each (a + 2) (omega arith) (omega arith))
    ∙ ap (λ x. from_be_bytes w32 (slice_index old a ∷ (slice_index old (a + 1) ∷ (slice_index old (a + 2) ∷ (x ∷ []))))) (each (a + 3) (omega arith) (omega arith))

-- the bytes of a store are in the word that is told, and all other words are as before
other_word : (memory : List ℕ) (address : ℕ) (bytes : List ℕ) (i : ℕ) → address % 4 + length bytes ≤ 4 → (word_address address ≡ 4 * i → ⊥)
    → word_at (stored memory address bytes) (4 * i) ≡ word_at memory (4 * i)
other_word memory address bytes i fits ne =
    let apart : (address + length bytes ≤ 4 * i) ⊎ (4 * i + 4 ≤ address) =
    ⊎_elim
    (λ (low : word_address address < 4 * i). inl (omega (arith, low, fits)))
    (λ (high : 4 * i ≤ word_address address). inr (omega (arith, high, ne)))
    (cases_lt (word_address address) (4 * i)) in
    word_same (stored memory address bytes) memory (4 * i)
    (λ j low high.
    stored_other memory address bytes j
    (⊎_elim
    (λ (before : address + length bytes ≤ 4 * i). inr (omega (arith, before, low)))
    (λ (behind : 4 * i + 4 ≤ address). inl (omega (arith, behind, high)))
    apart))

store_told : (memory : List ℕ) (address : ℕ) (bytes : List ℕ) (i : ℕ) → address % 4 + length bytes ≤ 4
    → last_word (word_at memory (4 * i)) (flat_map (word_told (4 * i)) (access_entries true (stored memory address bytes) (Some address)))
    ≡ word_at (stored memory address bytes) (4 * i)
store_told memory address bytes i fits =
    let now = stored memory address bytes in
    let at = word_address address in
    ⊎_elim
    (λ (here : at ≡ 4 * i).
    ap (λ b. last_word (word_at memory (4 * i)) (cond b (word_at now at ∷ []) [] ++ [])) (eq-eqb at (4 * i) here) ∙ ap (word_at now) here)
    (λ (ne : at ≡ 4 * i → ⊥).
    ap (λ b. last_word (word_at memory (4 * i)) (cond b (word_at now at ∷ []) [] ++ [])) (ne_eqb at (4 * i) ne)
    ∙ sym (other_word memory address bytes i fits ne))
    (cases_eq at (4 * i))

-- what is told of a row: the register that it may write, and whether it is a store
pub record IsTold (l : TileLocal) (register : Option ℕ) (store : Bool) (effect : TileEffect) : Type 0 where
  pub registers : (r : ℕ) → last_word (slice_index l.regs r) (flat_map (register_told r) (register_entries effect.next.regs (cond (is_address_trap effect.next.mark) None register))) ≡ slice_index effect.next.regs r
  pub memory : (i : ℕ) → last_word (word_at l.memory (4 * i)) (flat_map (word_told (4 * i)) (access_entries store effect.next.memory effect.touched)) ≡ word_at effect.next.memory (4 * i)

-- where no register is written
none_written : (regs : List ℕ) (b : Bool) (r : ℕ) → last_word (slice_index regs r) (flat_map (register_told r) (register_entries regs (cond b None None))) ≡ slice_index regs r
none_written regs true r = refl
none_written regs false r = refl

-- where the row is a trap
trapped_told : (l : TileLocal) (register : Option ℕ) (store : Bool) (cause : Cause) → is_address_trap (Trapped cause) ≡ true → IsTold l register store (stops l (Trapped cause))
trapped_told l register store cause trap =
    record {
      registers = λ r. ap (λ b. last_word (slice_index l.regs r) (flat_map (register_told r) (register_entries l.regs (cond b None register)))) trap;
      memory = λ i. refl;
    }

goes_told : (size : ℕ) (l : TileLocal) (pc : ℕ) → IsTold l None false (goes size l pc)
goes_told size l pc = record { registers = λ r. none_written l.regs (is_address_trap (goes size l pc).next.mark) r; memory = λ i. refl }

halts_told : (l : TileLocal) → IsTold l None false (stops l Halted)
halts_told l = record { registers = λ r. refl; memory = λ i. refl }

-- where a register is written
written : (regs : List ℕ) (register value r : ℕ) → (kept_register (Some register) ≡ Some r → ⊥) → slice_index (with_register regs register value) r ≡ slice_index regs r
written regs register value r ne = by_test (eqb register 0 || is_network register) ne
  where
    by_test : (b : Bool) → (cond b None (Some register) ≡ Some r → ⊥) → slice_index (cond b regs (set regs register value)) r ≡ slice_index regs r
    by_test true ne = refl
    by_test false ne = get_or-set_other regs register r value 0 (λ e. ne (ap Some (sym e)))

gives_told : (size : ℕ) (l : TileLocal) (register value pc : ℕ) (touched : Option ℕ) → IsTold l (kept_register (Some register)) false (gives_at size l register value pc touched)
gives_told size l register value pc touched =
    record {
      registers =
          λ r.
          ap (λ b. last_word (slice_index l.regs r) (flat_map (register_told r) (register_entries (with_register l.regs register value) (cond b None (kept_register (Some register)))))) (no_address_trap size pc)
          ∙ told_register l.regs (with_register l.regs register value) (kept_register (Some register)) r (written l.regs register value r);
      memory = λ i. ap (last_word (word_at l.memory (4 * i))) (untold l.memory touched (4 * i));
    }

-- an access is unlawful by its address alone
fault_cause : (address bytes : ℕ) (cause : Cause) → access_fault address bytes ≡ Some cause → is_address_trap (Trapped cause) ≡ true
fault_cause address bytes cause e = from (eqb (address % bytes) 0) (nat_le (address + bytes) (2 ^ 16)) e
  where
    from : (b c : Bool) → cond b (cond c None (Some PastMemory)) (Some Misaligned) ≡ Some cause → is_address_trap (Trapped cause) ≡ true
    from true true is = absurd (cc is)
    from true false is = let same : PastMemory ≡ cause = cc is in sym (ap (λ x. is_address_trap (Trapped x)) same)
    from false c is = let same : Misaligned ≡ cause = cc is in sym (ap (λ x. is_address_trap (Trapped x)) same)

unless_told : (l : TileLocal) (register : Option ℕ) (store : Bool) (fault : Option Cause) (effect : TileEffect)
    → ((cause : Cause) → fault ≡ Some cause → is_address_trap (Trapped cause) ≡ true) → (fault ≡ None → IsTold l register store effect)
    → IsTold l register store (unless_fault fault l effect)
unless_told l register store None effect by_address is = is refl
unless_told l register store (Some cause) effect by_address is = trapped_told l register store cause (by_address cause refl)

loads_told : (size : ℕ) (l : TileLocal) (register address bytes value : ℕ) → IsTold l (kept_register (Some register)) false (loads size l register address bytes value)
loads_told size l register address bytes value =
    unless_told l (kept_register (Some register)) false (access_fault address bytes) (gives_at size l register value (following l) (Some address))
    (fault_cause address bytes) (λ none. gives_told size l register value (following l) (Some address))

-- a lawful address is a multiple of the number of bytes
aligned : (address bytes : ℕ) → access_fault address bytes ≡ None → address % bytes ≡ 0
aligned address bytes none = eqb-true (address % bytes) 0 (by_test (eqb (address % bytes) 0) none)
  where
    by_test : (b : Bool) → cond b (cond (nat_le (address + bytes) (2 ^ 16)) None (Some PastMemory)) (Some Misaligned) ≡ None → b ≡ true
    by_test true e = refl
    by_test false e = cc e

stores_told : (size : ℕ) (l : TileLocal) (address : ℕ) (bytes : List ℕ) → (address % length bytes ≡ 0 → address % 4 + length bytes ≤ 4)
    → IsTold l None true (stores size l address bytes)
stores_told size l address bytes fits =
    unless_told l None true (access_fault address (length bytes)) _ (fault_cause address (length bytes))
    (λ none.
    record {
      registers = λ r. none_written l.regs (is_address_trap (goes size l (following l)).next.mark) r;
      memory = λ i. store_told l.memory address bytes i (fits (aligned address (length bytes) none));
    })

-- each row of the table
pub row_told : (op : TileOp) (size : ℕ) (l : TileLocal) (ins : Instruction) (a b : ℕ)
    → IsTold l (kept_register (register_at (row_of op).destination ins)) (is_store op) (row_effect op size l ins a b)
row_told Sll size l ins a b = gives_told size l _ _ _ _
row_told Srl size l ins a b = gives_told size l _ _ _ _
row_told Sra size l ins a b = gives_told size l _ _ _ _
row_told Sllv size l ins a b = gives_told size l _ _ _ _
row_told Srlv size l ins a b = gives_told size l _ _ _ _
row_told Srav size l ins a b = gives_told size l _ _ _ _
row_told Jr size l ins a b = goes_told size l _
row_told Jalr size l ins a b = gives_told size l _ _ _ _
row_told Addu size l ins a b = gives_told size l _ _ _ _
row_told Subu size l ins a b = gives_told size l _ _ _ _
row_told And size l ins a b = gives_told size l _ _ _ _
row_told Or size l ins a b = gives_told size l _ _ _ _
row_told Xor size l ins a b = gives_told size l _ _ _ _
row_told Nor size l ins a b = gives_told size l _ _ _ _
row_told Slt size l ins a b = gives_told size l _ _ _ _
row_told Sltu size l ins a b = gives_told size l _ _ _ _
row_told Mul size l ins a b = gives_told size l _ _ _ _
row_told Mulhi size l ins a b = gives_told size l _ _ _ _
row_told Mulhu size l ins a b = gives_told size l _ _ _ _
row_told Clz size l ins a b = gives_told size l _ _ _ _
row_told Popc size l ins a b = gives_told size l _ _ _ _
row_told Halt size l ins a b = halts_told l
row_told Bltz size l ins a b = goes_told size l _
row_told Bgez size l ins a b = goes_told size l _
row_told Beq size l ins a b = goes_told size l _
row_told Bne size l ins a b = goes_told size l _
row_told Blez size l ins a b = goes_told size l _
row_told Bgtz size l ins a b = goes_told size l _
row_told Addiu size l ins a b = gives_told size l _ _ _ _
row_told Slti size l ins a b = gives_told size l _ _ _ _
row_told Sltiu size l ins a b = gives_told size l _ _ _ _
row_told Andi size l ins a b = gives_told size l _ _ _ _
row_told Ori size l ins a b = gives_told size l _ _ _ _
row_told Xori size l ins a b = gives_told size l _ _ _ _
row_told Lui size l ins a b = gives_told size l _ _ _ _
row_told Lb size l ins a b = loads_told size l ins.rt (address_of ins a) 1 (sign_extended_byte (slice_index l.memory (address_of ins a)))
row_told Lh size l ins a b = loads_told size l ins.rt (address_of ins a) 2 (sign_extended (half_at l.memory (address_of ins a)))
row_told Lw size l ins a b = loads_told size l ins.rt (address_of ins a) 4 (word_at l.memory (address_of ins a))
row_told Lbu size l ins a b = loads_told size l ins.rt (address_of ins a) 1 (slice_index l.memory (address_of ins a))
row_told Lhu size l ins a b = loads_told size l ins.rt (address_of ins a) 2 (half_at l.memory (address_of ins a))
row_told Sb size l ins a b = stores_told size l (address_of ins a) (b % 2 ^ 8 ∷ []) (fits_byte (address_of ins a))
  where
    fits_byte : (address : ℕ) → address % 1 ≡ 0 → address % 4 + 1 ≤ 4
    fits_byte address e = omega arith
row_told Sh size l ins a b = stores_told size l (address_of ins a) (to_be_bytes w16 (b % 2 ^ 16)) (fits_half (address_of ins a))
  where
    fits_half : (address : ℕ) → address % 2 ≡ 0 → address % 4 + 2 ≤ 4
    fits_half address e = omega (arith, e)
row_told Sw size l ins a b = stores_told size l (address_of ins a) (to_be_bytes w32 b) (fits_word (address_of ins a))
  where
    fits_word : (address : ℕ) → address % 4 ≡ 0 → address % 4 + 4 ≤ 4
    fits_word address e = omega (arith, e)
row_told J size l ins a b = goes_told size l _
row_told Jal size l ins a b = gives_told size l 31 (following l) _ _

-- the row of the instruction that is next, if there is one
pub effect_told : (o : Option Instruction) (size : ℕ) (l : TileLocal) (a b : ℕ) → IsTold l (tile_register o) (is_store_next o) (effect_of o size l a b)
effect_told None size l a b = record { registers = λ r. refl; memory = λ i. refl }
effect_told (Some ins) size l a b = row_told ins.op size l ins a b

-- a switch
control_told : (op : SwitchOp) (size : ℕ) (l : SwitchLocal) (ins : SwitchInstruction) (value r : ℕ)
    → last_word (slice_index l.regs r) (flat_map (register_told r) (register_entries (control op size l ins value).regs (switch_written op ins.rd))) ≡ slice_index (control op size l ins value).regs r
control_told switch_op.Bnezd size l ins value r = told_register l.regs _ (Some ins.rd) r (λ ne. get_or-set_other l.regs ins.rd r _ 0 (λ e. ne (ap Some (sym e))))
control_told switch_op.Move size l ins value r = told_register l.regs _ (Some ins.rd) r (λ ne. get_or-set_other l.regs ins.rd r value 0 (λ e. ne (ap Some (sym e))))
control_told _ size l ins value r = refl

pub switch_told : (o : Option SwitchInstruction) (size : ℕ) (l : SwitchLocal) (given : List (Option ℕ)) (r : ℕ)
    → last_word (slice_index l.regs r) (flat_map (register_told r) (register_entries (switch_effect_of o size l given).next.regs (switch_register o))) ≡ slice_index (switch_effect_of o size l given).next.regs r
switch_told None size l given r = refl
switch_told (Some ins) size l given r = control_told ins.op size l ins _ r
