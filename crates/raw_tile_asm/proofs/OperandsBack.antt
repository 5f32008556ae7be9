-- The operands of a listed line are read as the fields of its instruction.
use Rattle.std.proofs.Common.{◌≡◌, ℕ, ◌+◌, ◌-◌, ◌<◌, ◌≤◌, ◌^◌, Bool, true, false, ◌||◌, not, ltb, cond, List, [], ◌∷◌, ◌++◌, length, get_or, take, drop, map, Some, Option, Ok, refl, sym, ap, ◌∙◌, arith, length-append, append_assoc, ⊎_elim}
use Rattle.std.specs.Prelude.{codes}
use Rattle.std.specs.List.{list_any, list_all, position_or_len}
use Rattle.std.proofs.lemmas.Bool.{lt-ltb, le-ltb, cases_lt}
use Rattle.std.proofs.lemmas.Bool.Decides.{nat_tests}
use Rattle.std.proofs.lemmas.List.{take_at, drop_at, drop-drop, get_or_append_left, get_or_at}
use Rattle.std.proofs.lemmas.List.Sums.{position_or_len_is, AllPass-from_list_all}
use Rattle.raw_text.proofs.NumberTexts.{decimal_read, decimal_passes}
use Rattle.raw_tile_isa.specs.declared.limits.TheConstants.{MAX_TILE_CODE}
use Rattle.raw_tile_isa.specs.declared.table.Operand.{Operand}
use Rattle.raw_tile_isa.specs.declared.table.Operand.TheVariants.{Rd, Rs, Rt, Shift, Signed, Unsigned, Branch, Jump, Memory}
use Rattle.raw_tile_isa.specs.Table.{row_of}
use Rattle.raw_tile_isa.specs.Instruction.{Instruction, IsField, IsTileIns, uses, is_rs, is_rt, is_rd, is_sh, is_imm, is_target}
use Rattle.raw_tile_asm.specs.declared.operands.Fields.{Fields}
use Rattle.raw_tile_asm.specs.Operand.{with_operand, with_operands, memory_parts, is_open}
use Rattle.raw_tile_asm.specs.Statement.{instruction_of, no_fields}
use Rattle.raw_tile_asm.specs.Listing.{operand_text, register_text, signed_text}
use Rattle.raw_tile_asm.proofs.Limits.{Limits}
use Rattle.raw_tile_asm.proofs.OperandTexts.{register_read, signed_read, target_read, branch_read, hex_text_read}

not_true : (b : Bool) → not b ≡ true → b ≡ false
not_true true e = cc
not_true false e = refl

memory_cut : (a b : List ℕ) → list_all (λ c. not (is_open c)) a ≡ true → memory_parts (((a ++ 40 ∷ []) ++ b) ++ 41 ∷ []) ≡ Some (a, b)
unfolding memory_parts
memory_cut a b none =
    let inner = (a ++ 40 ∷ []) ++ b in
    let long : length (inner ++ 41 ∷ []) - 1 ≡ length inner = omega (arith, length-append inner (41 ∷ [])) in
    let regroup : inner ≡ a ++ 40 ∷ b = append_assoc a (40 ∷ []) b in
    let place : position_or_len is_open inner ≡ length a = rw regroup (position_at a b none) in
    let fits : ltb (length a) (length inner) ≡ true = lt-ltb (length a) (length inner) (omega (arith, ap length regroup, length-append a (40 ∷ b))) in
    let front : take (length a) inner ≡ a = rw regroup (take_at a (40 ∷ b) (length a) refl) in
    let back : drop (length a + 1) inner ≡ b = rw regroup (after a b) in
    rw (long, drop_at inner (41 ∷ []) (length inner) refl, take_at inner (41 ∷ []) (length inner) refl, place, fits, front, back) refl
  where
    position_at : (a b : List ℕ) → list_all (λ c. not (is_open c)) a ≡ true → position_or_len is_open (a ++ 40 ∷ b) ≡ length a
    position_at a b none = position_or_len_is is_open (a ++ 40 ∷ b) (length a) 0 (omega (arith, length-append a (40 ∷ b))) (λ k lt. rw (get_or_append_left a (40 ∷ b) 0 k lt) (not_true (is_open (get_or a k 0)) (AllPass-from_list_all (λ c. not (is_open c)) a none k 0 lt))) (λ _. rw (get_or_at a 40 b 0 (length a) refl) refl)

    after : (a b : List ℕ) → drop (length a + 1) (a ++ 40 ∷ b) ≡ b
    after a b = sym (drop-drop 1 (length a) (a ++ 40 ∷ b)) ∙ ap (drop 1) (drop_at a (40 ∷ b) (length a) refl)

-- the parts of a text that is put together of them
memory_back : (a b : List ℕ) → list_all (λ c. not (is_open c)) a ≡ true → memory_parts (a ++ (codes "(" ++ (b ++ codes ")"))) ≡ Some (a, b)
memory_back a b none =
    let regroup : a ++ (codes "(" ++ (b ++ codes ")")) ≡ ((a ++ 40 ∷ []) ++ b) ++ 41 ∷ [] = sym (append_assoc (a ++ 40 ∷ []) b (41 ∷ []) ∙ append_assoc a (40 ∷ []) (b ++ 41 ∷ [])) in
    ap memory_parts regroup ∙ memory_cut a b none

signed_solid : (imm : ℕ) → imm < 2 ^ 16 → list_all (λ c. not (is_open c)) (signed_text imm) ≡ true
signed_solid imm small =
    let digits = λ (n : ℕ) (fits : n < 2 ^ 64). decimal_passes (λ c. not (is_open c)) n fits (λ b low high. grind (arith, nat_tests)) in
    ⊎_elim
    (λ (low : imm < 2 ^ 15). rw (lt-ltb imm 32768 low) (digits imm (omega arith)))
    (λ (high : 2 ^ 15 ≤ imm). rw (le-ltb imm 32768 high) (digits (65536 - imm) (omega arith)))
    (cases_lt imm (2 ^ 15))

-- the fields with those that an operand fills taken from an instruction
abbrev pub put : Instruction → Operand → Fields → Fields
put i form f = record {
  rs = cond (is_rs form) i.rs f.rs;
  rt = cond (is_rt form) i.rt f.rt;
  rd = cond (is_rd form) i.rd f.rd;
  sh = cond (is_sh form) i.sh f.sh;
  imm = cond (is_imm form) i.imm f.imm;
  target = cond (is_target form) i.target f.target;
}

-- the fields after all operands of an instruction
abbrev pub filled : Instruction → List Operand → Fields → Fields
filled i [] f = f
filled i (form ∷ forms) f = filled i forms (put i form f)

module _ (labels : List ℕ → Option ℕ) (place : ℕ) (i : Instruction) (near : place ≤ MAX_TILE_CODE) (l : Limits i) where
  operand_read : (form : Operand) (f : Fields) → with_operand labels place form (operand_text i place form) f ≡ Ok (put i form f)
  unfolding with_operand
  operand_read Rd f = rw (register_read i.rd l.rd) refl
  operand_read Rs f = rw (register_read i.rs l.rs) refl
  operand_read Rt f = rw (register_read i.rt l.rt) refl
  operand_read Shift f = rw (decimal_read i.sh (let h = l.sh in omega arith), lt-ltb i.sh 32 l.sh) refl
  operand_read Signed f = let n = signed_read i.imm l.imm in rw (n.1, n.2) refl
  operand_read Unsigned f = rw (hex_text_read i.imm l.imm, lt-ltb i.imm 65536 l.imm) refl
  operand_read Branch f = let t = branch_read labels place i.imm near l.imm in rw (t.1, t.2) refl
  operand_read Jump f = rw (target_read labels i.target (let h = l.target in omega arith), lt-ltb i.target 67108864 l.target) refl
  operand_read Memory f =
      let n = signed_read i.imm l.imm in
      rw (memory_back (signed_text i.imm) (register_text i.rs) (signed_solid i.imm l.imm), register_read i.rs l.rs, n.1, n.2) refl

  pub operands_read : (forms : List Operand) (f : Fields) → with_operands labels place forms (map (operand_text i place) forms) f ≡ Ok (filled i forms f)
  unfolding with_operands
  operands_read [] f = refl
  operands_read (form ∷ forms) f = rw (operand_read form f) (operands_read forms (put i form f))

taken : (a b : Bool) (v w : ℕ) → cond b v (cond a v w) ≡ cond (a || b) v w
taken true true v w = refl
taken true false v w = refl
taken false true v w = refl
taken false false v w = refl

field_filled : (i : Instruction) (is_field : Operand → Bool) (field : Fields → ℕ) (v : ℕ) → ((form : Operand) (f : Fields) → field (put i form f) ≡ cond (is_field form) v (field f)) → (forms : List Operand) (f : Fields) → field (filled i forms f) ≡ cond (list_any is_field forms) v (field f)
field_filled i is_field field v step [] f = refl
field_filled i is_field field v step (form ∷ forms) f =
    field_filled i is_field field v step forms (put i form f) ∙ ap (cond (list_any is_field forms) v) (step form f) ∙ taken (is_field form) (list_any is_field forms) v (field f)

kept : (used : Bool) (limit v : ℕ) → IsField used limit v → cond used v 0 ≡ v
kept true limit v h = refl
kept false limit v h = sym h

-- the fields that the operands of an instruction fill are its own
pub filled_back : (i : Instruction) → IsTileIns i → instruction_of i.op (filled i (row_of i.op).operands no_fields) ≡ i
filled_back i h =
    let forms = (row_of i.op).operands in
    let rs = field_filled i is_rs (λ f. f.rs) i.rs (λ form f. refl) forms no_fields ∙ kept (uses is_rs i.op) 32 i.rs h.rs in
    let rt = field_filled i is_rt (λ f. f.rt) i.rt (λ form f. refl) forms no_fields ∙ kept (uses is_rt i.op) 32 i.rt h.rt in
    let rd = field_filled i is_rd (λ f. f.rd) i.rd (λ form f. refl) forms no_fields ∙ kept (uses is_rd i.op) 32 i.rd h.rd in
    let sh = field_filled i is_sh (λ f. f.sh) i.sh (λ form f. refl) forms no_fields ∙ kept (uses is_sh i.op) 32 i.sh h.sh in
    let imm = field_filled i is_imm (λ f. f.imm) i.imm (λ form f. refl) forms no_fields ∙ kept (uses is_imm i.op) (2 ^ 16) i.imm h.imm in
    let target = field_filled i is_target (λ f. f.target) i.target (λ form f. refl) forms no_fields ∙ kept (uses is_target i.op) (2 ^ 26) i.target h.target in
    rw (rs, rt, rd, sh, imm, target) refl
