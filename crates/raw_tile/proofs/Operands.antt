-- The operands of a row: the values given, or what the registers hold.
use Rattle.std.proofs.Common.{◌≡◌, ℕ, Bool, true, false, ◌&&◌, cond, Option, Some, None, is_some, unwrap_or, List, ◌++◌, drop, length, slice_index, subst, refl, sym, ap, ◌∙◌}
use Rattle.std.specs.Option.{option_to_list}
use Rattle.raw_tile_isa.specs.declared.table.TileOp.{TileOp}
use Rattle.raw_tile_isa.specs.declared.table.TileOp.TheVariants.{Sll, Srl, Sra, Sllv, Srlv, Srav, Jr, Jalr, Addu, Subu, And, Or, Xor, Nor, Slt, Sltu, Mul, Mulhi, Mulhu, Clz, Popc, Bltz, Bgez, Beq, Bne, Blez, Bgtz, Addiu, Slti, Sltiu, Andi, Ori, Xori, Lb, Lh, Lw, Lbu, Lhu, Sb, Sh, Sw}
use Rattle.raw_tile_isa.specs.Instruction.{Instruction, uses, is_rs, reads_rt, is_network}
use Rattle.raw_model.specs.Local.{TileLocal}
use Rattle.raw_model.specs.TileTable.{row_effect, effect_of, next_instruction}
use Rattle.raw_model.specs.Machine.{first_operand, second_operand, tile_effect}
use Rattle.raw_tile.specs.declared.fire.TileGiven.{TileGiven}
use Rattle.raw_tile.specs.Given.{IsGivenFor, values_of}

-- a function of two numbers has one value at equal numbers
at_both : {A : Type 0} (f : ℕ → ℕ → A) {a b c d : ℕ} → a ≡ c → b ≡ d → f a b ≡ f c d
at_both f {a} {b} {c} {d} first second = ap (λ v. f v b) first ∙ ap (f c) second

-- a row reads an operand only where its instruction names it
row_reads : (op : TileOp) (size : ℕ) (l : TileLocal) (ins : Instruction) (a b c d : ℕ)
    → (uses is_rs op ≡ true → a ≡ c) → (reads_rt op ≡ true → b ≡ d)
    → row_effect op size l ins a b ≡ row_effect op size l ins c d
row_reads Sll size l ins a b c d first second = ap (row_effect Sll size l ins a) (second refl)
row_reads Srl size l ins a b c d first second = ap (row_effect Srl size l ins a) (second refl)
row_reads Sra size l ins a b c d first second = ap (row_effect Sra size l ins a) (second refl)
row_reads Sllv size l ins a b c d first second = at_both (row_effect Sllv size l ins) (first refl) (second refl)
row_reads Srlv size l ins a b c d first second = at_both (row_effect Srlv size l ins) (first refl) (second refl)
row_reads Srav size l ins a b c d first second = at_both (row_effect Srav size l ins) (first refl) (second refl)
row_reads Jr size l ins a b c d first second = ap (λ v. row_effect Jr size l ins v b) (first refl)
row_reads Jalr size l ins a b c d first second = ap (λ v. row_effect Jalr size l ins v b) (first refl)
row_reads Addu size l ins a b c d first second = at_both (row_effect Addu size l ins) (first refl) (second refl)
row_reads Subu size l ins a b c d first second = at_both (row_effect Subu size l ins) (first refl) (second refl)
row_reads And size l ins a b c d first second = at_both (row_effect And size l ins) (first refl) (second refl)
row_reads Or size l ins a b c d first second = at_both (row_effect Or size l ins) (first refl) (second refl)
row_reads Xor size l ins a b c d first second = at_both (row_effect Xor size l ins) (first refl) (second refl)
row_reads Nor size l ins a b c d first second = at_both (row_effect Nor size l ins) (first refl) (second refl)
row_reads Slt size l ins a b c d first second = at_both (row_effect Slt size l ins) (first refl) (second refl)
row_reads Sltu size l ins a b c d first second = at_both (row_effect Sltu size l ins) (first refl) (second refl)
row_reads Mul size l ins a b c d first second = at_both (row_effect Mul size l ins) (first refl) (second refl)
row_reads Mulhi size l ins a b c d first second = at_both (row_effect Mulhi size l ins) (first refl) (second refl)
row_reads Mulhu size l ins a b c d first second = at_both (row_effect Mulhu size l ins) (first refl) (second refl)
row_reads Clz size l ins a b c d first second = ap (λ v. row_effect Clz size l ins v b) (first refl)
row_reads Popc size l ins a b c d first second = ap (λ v. row_effect Popc size l ins v b) (first refl)
row_reads Bltz size l ins a b c d first second = ap (λ v. row_effect Bltz size l ins v b) (first refl)
row_reads Bgez size l ins a b c d first second = ap (λ v. row_effect Bgez size l ins v b) (first refl)
row_reads Beq size l ins a b c d first second = at_both (row_effect Beq size l ins) (first refl) (second refl)
row_reads Bne size l ins a b c d first second = at_both (row_effect Bne size l ins) (first refl) (second refl)
row_reads Blez size l ins a b c d first second = ap (λ v. row_effect Blez size l ins v b) (first refl)
row_reads Bgtz size l ins a b c d first second = ap (λ v. row_effect Bgtz size l ins v b) (first refl)
row_reads Addiu size l ins a b c d first second = ap (λ v. row_effect Addiu size l ins v b) (first refl)
row_reads Slti size l ins a b c d first second = ap (λ v. row_effect Slti size l ins v b) (first refl)
row_reads Sltiu size l ins a b c d first second = ap (λ v. row_effect Sltiu size l ins v b) (first refl)
row_reads Andi size l ins a b c d first second = ap (λ v. row_effect Andi size l ins v b) (first refl)
row_reads Ori size l ins a b c d first second = ap (λ v. row_effect Ori size l ins v b) (first refl)
row_reads Xori size l ins a b c d first second = ap (λ v. row_effect Xori size l ins v b) (first refl)
row_reads Lb size l ins a b c d first second = ap (λ v. row_effect Lb size l ins v b) (first refl)
row_reads Lh size l ins a b c d first second = ap (λ v. row_effect Lh size l ins v b) (first refl)
row_reads Lw size l ins a b c d first second = ap (λ v. row_effect Lw size l ins v b) (first refl)
row_reads Lbu size l ins a b c d first second = ap (λ v. row_effect Lbu size l ins v b) (first refl)
row_reads Lhu size l ins a b c d first second = ap (λ v. row_effect Lhu size l ins v b) (first refl)
row_reads Sb size l ins a b c d first second = at_both (row_effect Sb size l ins) (first refl) (second refl)
row_reads Sh size l ins a b c d first second = at_both (row_effect Sh size l ins) (first refl) (second refl)
row_reads Sw size l ins a b c d first second = at_both (row_effect Sw size l ins) (first refl) (second refl)
row_reads _ size l ins a b c d first second = refl

-- the value at rs, by whether the instruction reads there and whether that is a network
first_by : (reads network : Bool) (a : Option ℕ) (others : List ℕ) (held : ℕ) → reads ≡ true → is_some a ≡ (reads && network)
    → unwrap_or a held ≡ cond reads (cond network (slice_index (option_to_list a ++ others) 0) held) 0
first_by true true (Some v) others held e s = refl
first_by true true None others held e s = absurd (cc s)
first_by true false (Some v) others held e s = absurd (cc s)
first_by true false None others held e s = refl
first_by false network a others held e s = absurd (cc e)

-- the values that are left for rt
left_for : (reads network : Bool) (a : Option ℕ) (others : List ℕ) → is_some a ≡ (reads && network)
    → cond reads (cond network (drop 1 (option_to_list a ++ others)) (option_to_list a ++ others)) (option_to_list a ++ others) ≡ others
left_for true true (Some v) others s = refl
left_for true true None others s = absurd (cc s)
left_for true false (Some v) others s = absurd (cc s)
left_for true false None others s = refl
left_for false network (Some v) others s = absurd (cc s)
left_for false network None others s = refl

-- the value at rt, of the values left for it
second_by : (reads network : Bool) (b : Option ℕ) (left : List ℕ) (held : ℕ) → left ≡ option_to_list b → reads ≡ true
    → is_some b ≡ (reads && network) → unwrap_or b held ≡ cond reads (cond network (slice_index left 0) held) 0
second_by true true (Some v) left held l e s = sym (ap (λ vs. slice_index vs 0) l)
second_by true true None left held l e s = absurd (cc s)
second_by true false (Some v) left held l e s = absurd (cc s)
second_by true false None left held l e s = refl
second_by false network b left held l e s = absurd (cc e)

-- the row done with the values at hand is the effect of the tile's next instruction
pub fired : (code : List Instruction) (l : TileLocal) (ins : Instruction) (given : TileGiven) (a b : ℕ) → next_instruction code l ≡ Some ins
    → IsGivenFor (next_instruction code l) given → a ≡ unwrap_or given.a (slice_index l.regs ins.rs) → b ≡ unwrap_or given.b (slice_index l.regs ins.rt)
    → row_effect ins.op (length code) l ins a b ≡ tile_effect code l (values_of given)
fired code l ins given a b is_next is_given is_a is_b = subst Is (sym is_next) here (subst (λ o. IsGivenFor o given) is_next is_given)
  where
    Is : Option Instruction → Type 0
    Is o = IsGivenFor (Some ins) given → row_effect ins.op (length code) l ins a b
        ≡ effect_of o (length code) l (first_operand o l.regs (values_of given)) (second_operand o l.regs (values_of given))

    here : Is (Some ins)
    here g =
        row_reads ins.op (length code) l ins a b _ _
        (λ reads. is_a ∙ first_by (uses is_rs ins.op) (is_network ins.rs) given.a (option_to_list given.b) (slice_index l.regs ins.rs) reads g.first)
        (λ reads. is_b ∙ second_by (reads_rt ins.op) (is_network ins.rt) given.b _ (slice_index l.regs ins.rt) (left_for (uses is_rs ins.op) (is_network ins.rs) given.a (option_to_list given.b) g.first) reads g.second)
