-- The operands of a statement, read from left to right.
use Rattle.std.proofs.Common.{◌≡◌, ◌≢◌, ℕ, ◌+◌, ◌<◌, ◌≤◌, ◌^◌, Bool, true, false, ◌||◌, List, [], ◌∷◌, ◌++◌, length, get_or, take, drop, Ok, Err, Option, refl, sym, ap, ◌∙◌, arith}
use Rattle.std.specs.Prelude.{◌==◌}
use Rattle.std.specs.List.{list_any}
use Rattle.std.proofs.lemmas.Bool.Decides.{nat_tests}
use Rattle.std.proofs.lemmas.List.{drop_more, take_more, drop_all}
use Rattle.std.proofs.lemmas.List.Recursion.{or_push}
use Rattle.raw_tile_isa.specs.declared.table.Operand.{Operand}
use Rattle.raw_tile_isa.specs.declared.table.Operand.TheVariants.{Rd}
use Rattle.raw_tile_isa.specs.Instruction.{IsField, IsTileIns, uses, is_rs, is_rt, is_rd, is_sh, is_imm, is_target}
use Rattle.raw_asm.specs.declared.kind.AsmKind.{AsmKind}
use Rattle.raw_asm.specs.declared.kind.AsmKind.TheVariants.{BadOperand}
use Rattle.raw_tile_asm.specs.declared.operands.Fields.{Fields}
use Rattle.raw_tile_asm.specs.Operand.{with_operand, with_operands, AreSmall, KeepsOthers}
use Rattle.raw_tile_asm.specs.Form.{Form, FillsOwn}
use Rattle.raw_tile_asm.specs.Statement.{operands_of, instruction_of, no_fields}

-- a wrong count of operands is the fault
pub bad_count : (labels : List ℕ → Option ℕ) (place : ℕ) (f : Form) (tokens : List (List ℕ)) → length tokens ≢ length f.operands → operands_of labels place f tokens ≡ Err BadOperand
unfolding operands_of
bad_count labels place f tokens h = let e : (length tokens == length f.operands) ≡ false = grind (arith, nat_tests) in rw e refl

-- with the right count they are read in turn
pub good_count : (labels : List ℕ → Option ℕ) (place : ℕ) (f : Form) (tokens : List (List ℕ)) → length tokens ≡ length f.operands → operands_of labels place f tokens ≡ with_operands labels place f.operands tokens no_fields
unfolding operands_of
good_count labels place f tokens h = let e : (length tokens == length f.operands) ≡ true = grind (arith, nat_tests) in rw e refl

module _ (labels : List ℕ → Option ℕ) (place : ℕ) where
  -- one operand, and the rest
  pub operand_next : (forms : List Operand) (tokens : List (List ℕ)) (k at : ℕ) (form : Operand) (f g : Fields) → k < length forms → at < length tokens → form ≡ get_or forms k Rd
      → with_operand labels place form (get_or tokens at []) f ≡ Ok g → with_operands labels place (drop (k + 1) forms) (drop (at + 1) tokens) g ≡ with_operands labels place (drop k forms) (drop at tokens) f
  unfolding with_operands
  operand_next forms tokens k at form f g lt within is_form e =
      let here : drop k forms ≡ form ∷ drop (k + 1) forms = drop_more forms k Rd lt ∙ ap (λ x. x ∷ drop (k + 1) forms) (sym is_form) in
      rw (here, drop_more tokens at [] within, e) refl

  pub operand_fails : (forms : List Operand) (tokens : List (List ℕ)) (k at : ℕ) (form : Operand) (f : Fields) (kind : AsmKind) → k < length forms → at < length tokens → form ≡ get_or forms k Rd
      → with_operand labels place form (get_or tokens at []) f ≡ Err kind → with_operands labels place (drop k forms) (drop at tokens) f ≡ Err kind
  unfolding with_operands
  operand_fails forms tokens k at form f kind lt within is_form e =
      let here : drop k forms ≡ form ∷ drop (k + 1) forms = drop_more forms k Rd lt ∙ ap (λ x. x ∷ drop (k + 1) forms) (sym is_form) in
      rw (here, drop_more tokens at [] within, e) refl

  pub operands_done : (forms : List Operand) (tokens : List (List ℕ)) (k : ℕ) (f : Fields) → length forms ≤ k → with_operands labels place (drop k forms) tokens f ≡ Ok f
  unfolding with_operands
  operands_done forms tokens k f le = rw (drop_all k forms le) refl

-- a field is 0 where none of these operands fills it
pub record AreUnused (forms : List Operand) (f : Fields) : Type 0 where
  pub rs : list_any is_rs forms ≡ false → f.rs ≡ 0
  pub rt : list_any is_rt forms ≡ false → f.rt ≡ 0
  pub rd : list_any is_rd forms ≡ false → f.rd ≡ 0
  pub sh : list_any is_sh forms ≡ false → f.sh ≡ 0
  pub imm : list_any is_imm forms ≡ false → f.imm ≡ 0
  pub target : list_any is_target forms ≡ false → f.target ≡ 0

pub neither : (a b : Bool) → (a || b) ≡ false → (a ≡ false) × (b ≡ false)
neither true b e = cc
neither false b e = (refl, e)

unused_next : (p : Operand → Bool) (front : List Operand) (form : Operand) (old new : ℕ) → (list_any p front ≡ false → old ≡ 0) → (p form ≡ false → new ≡ old) → list_any p (front ++ form ∷ []) ≡ false → new ≡ 0
unused_next p front form old new was keeps none =
    let both = neither (list_any p front) (p form) (sym (or_push (list_any p) p refl (λ _ _. refl) front form) ∙ none) in
    keeps both.1 ∙ was both.0

pub unused_more : (forms : List Operand) (k : ℕ) (form : Operand) (f g : Fields) → k < length forms → form ≡ get_or forms k Rd → AreUnused (take k forms) f → KeepsOthers form f g → AreUnused (take (k + 1) forms) g
unused_more forms k form f g lt is_form was keeps =
    let more : take (k + 1) forms ≡ take k forms ++ form ∷ [] = take_more forms k Rd lt ∙ ap (λ x. take k forms ++ x ∷ []) (sym is_form) in
    rw more (record {
      rs = unused_next is_rs (take k forms) form f.rs g.rs was.rs keeps.rs;
      rt = unused_next is_rt (take k forms) form f.rt g.rt was.rt keeps.rt;
      rd = unused_next is_rd (take k forms) form f.rd g.rd was.rd keeps.rd;
      sh = unused_next is_sh (take k forms) form f.sh g.sh was.sh keeps.sh;
      imm = unused_next is_imm (take k forms) form f.imm g.imm was.imm keeps.imm;
      target = unused_next is_target (take k forms) form f.target g.target was.target keeps.target;
    })

field_is : (used : Bool) (limit value : ℕ) → value < limit → (used ≡ false → value ≡ 0) → IsField used limit value
field_is true limit value lt h = lt
field_is false limit value lt h = h refl

-- the fields that the operands of a form fill are those of an instruction
pub fields_fit : (g : Form) (f : Fields) → FillsOwn g → AreSmall f → AreUnused g.operands f → IsTileIns (instruction_of g.op f)
fields_fit g f own small unused = record {
  rs = field_is (uses is_rs g.op) 32 f.rs small.rs (λ e. unused.rs (own.rs e));
  rt = field_is (uses is_rt g.op) 32 f.rt small.rt (λ e. unused.rt (own.rt e));
  rd = field_is (uses is_rd g.op) 32 f.rd small.rd (λ e. unused.rd (own.rd e));
  sh = field_is (uses is_sh g.op) 32 f.sh small.sh (λ e. unused.sh (own.sh e));
  imm = field_is (uses is_imm g.op) (2 ^ 16) f.imm small.imm (λ e. unused.imm (own.imm e));
  target = field_is (uses is_target g.op) (2 ^ 26) f.target small.target (λ e. unused.target (own.target e));
}
