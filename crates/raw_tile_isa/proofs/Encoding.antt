-- From instructions to words and back.
use Rattle.std.proofs.Common.{◌≡◌, ◌≢◌, ℕ, ◌+◌, ◌*◌, ◌/◌, ◌%◌, ◌^◌, ◌<◌, ◌⊎◌, Bool, true, false, cond, nat_lt, Option, Some, None, IfSome, ⊎_elim, refl, sym, ap, ◌∙◌, arith}
use Rattle.std.specs.Prelude.{◌==◌, ◌&&◌, ◌||◌, not}
use Rattle.std.specs.Option.{option_and_then}
use Rattle.std.proofs.lemmas.Bool.Decides.{nat_tests}
use Rattle.raw_tile_isa.specs.declared.table.TileOp.{TileOp}
use Rattle.raw_tile_isa.specs.declared.table.TileOp.TheVariants.{Sll}
use Rattle.raw_tile_isa.specs.declared.table.Opcode.{Opcode}
use Rattle.raw_tile_isa.specs.declared.table.Opcode.TheVariants.{Special, Special2, RegImm, Plain}
use Rattle.raw_tile_isa.specs.Table.{row_of, op_with, op_named}
use Rattle.raw_tile_isa.specs.Instruction.{Instruction, IsTileIns, IsField, TileCode, uses, is_rs, is_rt, is_rd, is_sh, is_imm, is_target, code_of, key_at, key_word, bits_where, fields_of, decode_of}

-- the instruction with the opcode of a row is that row's
pub op_back : (op : TileOp) → op_with (row_of op).key ≡ Some op
unfolding op_with
op_back Sll = refl
op_back _ = refl

-- the instruction with the name of a row is that row's
pub name_back : (op : TileOp) → op_named (row_of op).name ≡ Some op
unfolding op_named
name_back Sll = refl
name_back _ = refl

-- whether the operands stand in the fields of a word with fn
abbrev has_fn_shape : TileOp → Bool
has_fn_shape op = not (uses is_imm op) && not (uses is_target op)

-- whether the operands stand in the fields of a word with an immediate
abbrev has_imm_shape : TileOp → Bool
has_imm_shape op = not (uses is_rd op) && not (uses is_sh op) && not (uses is_target op)

-- whether the operands stand in the fields of a word with a target
abbrev has_target_shape : TileOp → Bool
has_target_shape op =
    not (uses is_rs op) && not (uses is_rt op) && not (uses is_rd op) && not (uses is_sh op) && not (uses is_imm op)

-- whether the opcode's numbers fit their bits, and the operands stand in the fields that its words have beside them
abbrev is_shaped : Opcode → TileOp → Bool
is_shaped (Special fn) op = nat_lt fn 64 && has_fn_shape op
is_shaped (Special2 fn) op = nat_lt fn 64 && has_fn_shape op
is_shaped (RegImm r) op = nat_lt r 32 && not (uses is_rt op) && has_imm_shape op
is_shaped (Plain o) op =
    nat_lt o 64 && not (o == 0) && not (o == 1) && not (o == 28) && (has_imm_shape op || has_target_shape op)

-- each row of the table has the shape of its opcode
shaped : (op : TileOp) → is_shaped (row_of op).key op ≡ true
shaped Sll = refl
shaped _ = refl

-- no operand stands in the fields that a word with fn has not
record FnShape (op : TileOp) : Type 0 where
  imm : uses is_imm op ≡ false
  target : uses is_target op ≡ false

-- no operand stands in the fields that a word with an immediate has not
record ImmShape (op : TileOp) : Type 0 where
  rd : uses is_rd op ≡ false
  sh : uses is_sh op ≡ false
  target : uses is_target op ≡ false

-- no operand stands in the fields that a word with a target has not
record TargetShape (op : TileOp) : Type 0 where
  rs : uses is_rs op ≡ false
  rt : uses is_rt op ≡ false
  rd : uses is_rd op ≡ false
  sh : uses is_sh op ≡ false
  imm : uses is_imm op ≡ false

none_of_two : (a b : Bool) → (not a && not b) ≡ true → (a ≡ false) × (b ≡ false)
none_of_two a b h = grind arith

none_of_three : (a b c : Bool) → (not a && not b && not c) ≡ true → (a ≡ false) × (b ≡ false) × (c ≡ false)
none_of_three a b c h = grind arith

none_of_five : (a b c d e : Bool) → (not a && not b && not c && not d && not e) ≡ true
    → (a ≡ false) × (b ≡ false) × (c ≡ false) × (d ≡ false) × (e ≡ false)
none_of_five a b c d e h = grind arith

fn_parts : (fn : ℕ) (p : Bool) → (nat_lt fn 64 && p) ≡ true → (fn < 64) × (p ≡ true)
fn_parts fn p h = grind (arith, nat_tests)

rt_parts : (r : ℕ) (p q : Bool) → (nat_lt r 32 && not p && q) ≡ true → (r < 32) × (p ≡ false) × (q ≡ true)
rt_parts r p q h = grind (arith, nat_tests)

op_parts : (o : ℕ) (p q : Bool) → (nat_lt o 64 && not (o == 0) && not (o == 1) && not (o == 28) && (p || q)) ≡ true
    → (o < 64) × (o ≢ 0) × (o ≢ 1) × (o ≢ 28) × ((p ≡ true) ⊎ (q ≡ true))
op_parts o p q h = grind (arith, nat_tests)

fn_shape : (op : TileOp) → has_fn_shape op ≡ true → FnShape op
fn_shape op h =
    let none = none_of_two (uses is_imm op) (uses is_target op) h in
    record { imm = none.0; target = none.1 }

imm_shape : (op : TileOp) → has_imm_shape op ≡ true → ImmShape op
imm_shape op h =
    let none = none_of_three (uses is_rd op) (uses is_sh op) (uses is_target op) h in
    record { rd = none.0; sh = none.1; target = none.2 }

target_shape : (op : TileOp) → has_target_shape op ≡ true → TargetShape op
target_shape op h =
    let none = none_of_five (uses is_rs op) (uses is_rt op) (uses is_rd op) (uses is_sh op) (uses is_imm op) h in
    record { rs = none.0; rt = none.1; rd = none.2; sh = none.3; imm = none.4 }

-- a field is below its limit
field_small : (used : Bool) (limit value : ℕ) → 0 < limit → IsField used limit value → value < limit
field_small true limit value some h = h
field_small false limit value some h = omega arith

-- a field in which no operand stands is 0
field_zero : (used : Bool) (limit value : ℕ) → IsField used limit value → used ≡ false → value ≡ 0
field_zero true limit value h e = cc
field_zero false limit value h e = h

-- the fields of an instruction are below their limits
record IsSmall (ins : Instruction) : Type 0 where
  rs : ins.rs < 32
  rt : ins.rt < 32
  rd : ins.rd < 32
  sh : ins.sh < 32
  imm : ins.imm < 65536
  target : ins.target < 67108864

small : (ins : Instruction) → IsTileIns ins → IsSmall ins
small ins h = record {
  rs = field_small (uses is_rs ins.op) 32 ins.rs (omega arith) h.rs;
  rt = field_small (uses is_rt ins.op) 32 ins.rt (omega arith) h.rt;
  rd = field_small (uses is_rd ins.op) 32 ins.rd (omega arith) h.rd;
  sh = field_small (uses is_sh ins.op) 32 ins.sh (omega arith) h.sh;
  imm = field_small (uses is_imm ins.op) 65536 ins.imm (omega arith) h.imm;
  target = field_small (uses is_target ins.op) 67108864 ins.target (omega arith) h.target;
}

-- what a word shows of an instruction: an opcode, and the values of the fields that are used
record Shows (ins : Instruction) (opcode : Opcode) (word : ℕ) : Type 0 where
  small : word < 4294967296
  key : key_at word ≡ opcode
  rs : uses is_rs ins.op ≡ true → word / 2097152 % 32 ≡ ins.rs
  rt : uses is_rt ins.op ≡ true → word / 65536 % 32 ≡ ins.rt
  rd : uses is_rd ins.op ≡ true → word / 2048 % 32 ≡ ins.rd
  sh : uses is_sh ins.op ≡ true → word / 64 % 32 ≡ ins.sh
  imm : uses is_imm ins.op ≡ true → word / 1 % 65536 ≡ ins.imm
  target : uses is_target ins.op ≡ true → word / 1 % 67108864 ≡ ins.target

-- the word with the opcode's numbers and the fields at their places
abbrev placed : ℕ → Instruction → ℕ
placed key ins = key + ins.rs * 2097152 + ins.rt * 65536 + ins.rd * 2048 + ins.sh * 64 + ins.imm + ins.target

eq_false : (a b : ℕ) → a ≢ b → (a == b) ≡ false
eq_false a b h = grind (arith, nat_tests)

special_key : (fn word : ℕ) → word / 67108864 ≡ 0 → word % 64 ≡ fn → key_at word ≡ Special fn
special_key fn word high low = rw (high, low) refl

special2_key : (fn word : ℕ) → word / 67108864 ≡ 28 → word % 64 ≡ fn → key_at word ≡ Special2 fn
special2_key fn word high low = rw (high, low) refl

regimm_key : (r word : ℕ) → word / 67108864 ≡ 1 → word / 65536 % 32 ≡ r → key_at word ≡ RegImm r
regimm_key r word high low = rw (high, low) refl

plain_key : (o word : ℕ) → word / 67108864 ≡ o → o ≢ 0 → o ≢ 1 → o ≢ 28 → key_at word ≡ Plain o
plain_key o word e a b c = rw (e, eq_false o 0 a, eq_false o 28 c, eq_false o 1 b) refl

fn_shows : (ins : Instruction) (base fn word : ℕ) (key : Opcode) → IsTileIns ins → IsSmall ins → FnShape ins.op
    → fn < 64 → base < 64 → word ≡ placed (base * 67108864 + fn) ins
    → (word / 67108864 ≡ base → word % 64 ≡ fn → key_at word ≡ key) → Shows ins key word
fn_shows ins base fn word key h l shape fits low e known =
    let imm = field_zero (uses is_imm ins.op) 65536 ins.imm h.imm shape.imm in
    let target = field_zero (uses is_target ins.op) 67108864 ins.target h.target shape.target in
    record {
      small = omega arith;
      key = known (omega arith) (omega arith);
      rs = λ _. omega arith;
      rt = λ _. omega arith;
      rd = λ _. omega arith;
      sh = λ _. omega arith;
      imm = λ used. absurd (cc);
      target = λ used. absurd (cc);
    }

imm_shows : (ins : Instruction) (op word : ℕ) (key : Opcode) → IsTileIns ins → IsSmall ins → ImmShape ins.op
    → op < 64 → word ≡ placed (op * 67108864) ins
    → (word / 67108864 ≡ op → key_at word ≡ key) → Shows ins key word
imm_shows ins op word key h l shape fits e known =
    let rd = field_zero (uses is_rd ins.op) 32 ins.rd h.rd shape.rd in
    let sh = field_zero (uses is_sh ins.op) 32 ins.sh h.sh shape.sh in
    let target = field_zero (uses is_target ins.op) 67108864 ins.target h.target shape.target in
    record {
      small = omega arith;
      key = known (omega arith);
      rs = λ _. omega arith;
      rt = λ _. omega arith;
      rd = λ used. absurd (cc);
      sh = λ used. absurd (cc);
      imm = λ _. omega arith;
      target = λ used. absurd (cc);
    }

target_shows : (ins : Instruction) (op word : ℕ) (key : Opcode) → IsTileIns ins → IsSmall ins → TargetShape ins.op
    → op < 64 → word ≡ placed (op * 67108864) ins
    → (word / 67108864 ≡ op → key_at word ≡ key) → Shows ins key word
target_shows ins op word key h l shape fits e known =
    let rs = field_zero (uses is_rs ins.op) 32 ins.rs h.rs shape.rs in
    let rt = field_zero (uses is_rt ins.op) 32 ins.rt h.rt shape.rt in
    let rd = field_zero (uses is_rd ins.op) 32 ins.rd h.rd shape.rd in
    let sh = field_zero (uses is_sh ins.op) 32 ins.sh h.sh shape.sh in
    let imm = field_zero (uses is_imm ins.op) 65536 ins.imm h.imm shape.imm in
    record {
      small = omega arith;
      key = known (omega arith);
      rs = λ used. absurd (cc);
      rt = λ used. absurd (cc);
      rd = λ used. absurd (cc);
      sh = λ used. absurd (cc);
      imm = λ used. absurd (cc);
      target = λ _. omega arith;
    }

rt_shows : (ins : Instruction) (r word : ℕ) → IsTileIns ins → IsSmall ins → ImmShape ins.op
    → uses is_rt ins.op ≡ false → r < 32 → word ≡ placed (67108864 + r * 65536) ins → Shows ins (RegImm r) word
rt_shows ins r word h l shape unused fits e =
    let rt = field_zero (uses is_rt ins.op) 32 ins.rt h.rt unused in
    let rd = field_zero (uses is_rd ins.op) 32 ins.rd h.rd shape.rd in
    let sh = field_zero (uses is_sh ins.op) 32 ins.sh h.sh shape.sh in
    let target = field_zero (uses is_target ins.op) 67108864 ins.target h.target shape.target in
    record {
      small = omega arith;
      key = regimm_key r word (omega arith) (omega arith);
      rs = λ _. omega arith;
      rt = λ used. absurd (cc);
      rd = λ used. absurd (cc);
      sh = λ used. absurd (cc);
      imm = λ _. omega arith;
      target = λ used. absurd (cc);
    }

-- a word that is placed by the shape of its opcode shows the opcode and the fields
shows : (ins : Instruction) (key : Opcode) (word : ℕ) → IsTileIns ins → IsSmall ins → is_shaped key ins.op ≡ true
    → word ≡ placed (key_word key) ins → Shows ins key word
shows ins (Special fn) word h l s e =
    let parts = fn_parts fn (has_fn_shape ins.op) s in
    fn_shows ins 0 fn word (Special fn) h l (fn_shape ins.op parts.1) parts.0 (omega arith) (omega arith)
    (special_key fn word)
shows ins (Special2 fn) word h l s e =
    let parts = fn_parts fn (has_fn_shape ins.op) s in
    fn_shows ins 28 fn word (Special2 fn) h l (fn_shape ins.op parts.1) parts.0 (omega arith) (omega arith)
    (special2_key fn word)
shows ins (RegImm r) word h l s e =
    let parts = rt_parts r (uses is_rt ins.op) (has_imm_shape ins.op) s in
    rt_shows ins r word h l (imm_shape ins.op parts.2) parts.1 parts.0 (omega arith)
shows ins (Plain o) word h l s e =
    let parts = op_parts o (has_imm_shape ins.op) (has_target_shape ins.op) s in
    let known : word / 67108864 ≡ o → key_at word ≡ Plain o = λ high. plain_key o word high parts.1 parts.2 parts.3 in
    ⊎_elim {C = Shows ins (Plain o) word}
    (λ imm. imm_shows ins o word (Plain o) h l (imm_shape ins.op imm) parts.0 (omega arith) known)
    (λ target. target_shows ins o word (Plain o) h l (target_shape ins.op target) parts.0 (omega arith) known)
    parts.4

-- an instruction's word shows its opcode and its fields
code_shows : (ins : Instruction) → IsTileIns ins → Shows ins (row_of ins.op).key (code_of ins)
unfolding code_of
code_shows ins h = shows ins (row_of ins.op).key (code_of ins) h (small ins h) (shaped ins.op) (omega arith)

pub code_small : (ins : Instruction) → IsTileIns ins → code_of ins < 4294967296
code_small ins h = (code_shows ins h).small

-- a field is read back from a word that shows it
same_field : (used : Bool) (limit value word place : ℕ) → IsField used limit value
    → (used ≡ true → word / 2 ^ place % limit ≡ value) → bits_where used word place limit ≡ value
same_field true limit value word place h shown = shown refl
same_field false limit value word place h shown = sym h

-- the fields of an instruction stand in its word
fields_back : (ins : Instruction) → IsTileIns ins → fields_of ins.op (code_of ins) ≡ ins
fields_back ins h =
    let word = code_of ins in
    let shown = code_shows ins h in
    let rs = same_field (uses is_rs ins.op) 32 ins.rs word 21 h.rs shown.rs in
    let rt = same_field (uses is_rt ins.op) 32 ins.rt word 16 h.rt shown.rt in
    let rd = same_field (uses is_rd ins.op) 32 ins.rd word 11 h.rd shown.rd in
    let sh = same_field (uses is_sh ins.op) 32 ins.sh word 6 h.sh shown.sh in
    let imm = same_field (uses is_imm ins.op) 65536 ins.imm word 0 h.imm shown.imm in
    let target = same_field (uses is_target ins.op) 67108864 ins.target word 0 h.target shown.target in
    rw (rs, rt, rd, sh, imm, target) refl

-- what encodes so is found again
pub decode_back : (ins : Instruction) (word : ℕ) → TileCode ins word → decode_of word ≡ Some ins
unfolding decode_of
decode_back ins word encodes =
    let key = (code_shows ins encodes.rules).key in
    let op : op_with (key_at (code_of ins)) ≡ Some ins.op = ap op_with key ∙ op_back ins.op in
    let fields = fields_back ins encodes.rules in
    let same : (code_of ins == code_of ins) ≡ true = grind (arith, nat_tests) in
    rw (← encodes.code, op, fields, same) refl

-- no word has two instructions
pub one_instruction : (a b : Instruction) (word : ℕ) → TileCode a word → TileCode b word → a ≡ b
one_instruction a b word h g = let same : Some a ≡ Some b = sym (decode_back a word h) ∙ decode_back b word g in cc

-- a field that is read from a word is below its limit, or 0 where no operand stands there
field_kept : (used : Bool) (limit word place : ℕ) → 0 < limit → IsField used limit (bits_where used word place limit)
field_kept true limit word place some = omega arith
field_kept false limit word place some = refl

fields_kept : (op : TileOp) (word : ℕ) → IsTileIns (fields_of op word)
fields_kept op word = record {
  rs = field_kept (uses is_rs op) 32 word 21 (omega arith);
  rt = field_kept (uses is_rt op) 32 word 16 (omega arith);
  rd = field_kept (uses is_rd op) 32 word 11 (omega arith);
  sh = field_kept (uses is_sh op) 32 word 6 (omega arith);
  imm = field_kept (uses is_imm op) 65536 word 0 (omega arith);
  target = field_kept (uses is_target op) 67108864 word 0 (omega arith);
}

chosen : (same : Bool) (ins : Instruction) (word : ℕ) → same ≡ (code_of ins == word) → IsTileIns ins
    → IfSome (cond same (Some ins) None) (λ ins. TileCode ins word)
chosen true ins word e h = record { rules = h; code = grind (arith, nat_tests) }
chosen false ins word e h = tt

found : (op : Option TileOp) (word : ℕ)
    → IfSome
    (option_and_then (λ op. cond (code_of (fields_of op word) == word) (Some (fields_of op word)) None) op)
    (λ ins. TileCode ins word)
found None word = tt
found (Some op) word = chosen (code_of (fields_of op word) == word) (fields_of op word) word refl (fields_kept op word)

-- what is decoded encodes so
pub decode_found : (word : ℕ) → IfSome (decode_of word) (λ ins. TileCode ins word)
unfolding decode_of
decode_found word = found (op_with (key_at word)) word

-- the sum of the opcode's numbers and the fields, each shifted to its place, is the word
pub encoded : (ins : Instruction) (key rs rt rd sh imm : ℕ) → IsTileIns ins → key ≡ key_word (row_of ins.op).key
    → rs ≡ ins.rs → rt ≡ ins.rt → rd ≡ ins.rd → sh ≡ ins.sh → imm ≡ ins.imm
    → TileCode ins
    (key + rs * 2097152 % 4294967296 + rt * 65536 % 4294967296 + rd * 2048 % 4294967296 + sh * 64 % 4294967296
    + imm + ins.target)
unfolding code_of
encoded ins key rs rt rd sh imm h e e1 e2 e3 e4 e5 = let l = small ins h in record { rules = h; code = omega arith }
