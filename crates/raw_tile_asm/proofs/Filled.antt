-- The fields that the operands of a statement fill are those of an instruction.
use Rattle.std.proofs.Common.{◌≡◌, ℕ, ◌+◌, ◌-◌, ◌<◌, ◌^◌, ◌%◌, Bool, true, false, cond, List, [], ◌∷◌, length, Option, Result, Ok, Err, refl, subst, ◌∙◌, arith}
use Rattle.std.specs.Prelude.{nat_lt, ◌==◌}
use Rattle.std.specs.List.{list_any}
use Rattle.std.proofs.lemmas.Bool.Decides.{nat_tests}
use Rattle.raw_text.specs.Number.{number_of}
use Rattle.raw_tile_isa.specs.declared.table.Operand.{Operand}
use Rattle.raw_tile_isa.specs.declared.table.Operand.TheVariants.{Rd, Rs, Rt, Shift, Signed, Unsigned, Branch, Jump, Memory}
use Rattle.raw_tile_isa.specs.Instruction.{IsTileIns, is_rs, is_rt, is_rd, is_sh, is_imm, is_target}
use Rattle.raw_asm.specs.declared.kind.AsmKind.{AsmKind}
use Rattle.raw_asm.specs.declared.kind.AsmKind.TheVariants.{BadOperand}
use Rattle.raw_asm.specs.declared.operand.Target.{Target}
use Rattle.raw_asm.specs.declared.operand.Target.TheVariants.{Label, Number}
use Rattle.raw_asm.specs.Faults.{◌>>=◌, or_fault, in_range}
use Rattle.raw_asm.specs.Language.{target_of}
use Rattle.raw_tile_asm.specs.declared.operands.Fields.{Fields}
use Rattle.raw_tile_asm.specs.Operand.{register_of, is_short, signed_half, memory_parts, branch_field, jump_field, with_operand, with_operands, AreSmall, KeepsOthers}
use Rattle.raw_tile_asm.specs.Form.{Form, FillsOwn}
use Rattle.raw_tile_asm.specs.Statement.{operands_of, instruction_of, no_fields}
use Rattle.raw_tile_asm.proofs.OperandSteps.{AreUnused, neither, fields_fit}
use Rattle.raw_tile_asm.proofs.Values.{step_of, some_of, range_of, register_small}

half_small : (n v : ℕ) → signed_half n ≡ Ok v → v < 2 ^ 16
half_small n v e = let fits = range_of (is_short n) (n % 2 ^ 16) v e in let same = fits.1 in omega (arith, same)

branch_small : (place : ℕ) (target : Target) (v : ℕ) → branch_field place target ≡ Ok v → v < 2 ^ 16
branch_small place (Number n) v e = half_small ((n + 2 ^ 32 - (place + 1)) % 2 ^ 32) v e
branch_small place (Label there) v e = let same : (there + 2 ^ 32 - (place + 1)) % 2 ^ 16 ≡ v = cc in omega (arith, same)

jump_small : (target : Target) (v : ℕ) → jump_field target ≡ Ok v → v < 2 ^ 26
jump_small (Number n) v e =
    let fits = range_of (nat_lt n (2 ^ 26)) n v e in
    let test = fits.0 in
    let same = fits.1 in
    grind (arith, nat_tests)
jump_small (Label there) v e = let same : there % 2 ^ 26 ≡ v = cc in omega (arith, same)

below_small : (n v limit : ℕ) → in_range (nat_lt n limit) n ≡ Ok v → v < limit
below_small n v limit e =
    let fits = range_of (nat_lt n limit) n v e in
    let test = fits.0 in
    let same = fits.1 in
    grind (arith, nat_tests)

-- small fields stay small, and an operand fills no field but its own
abbrev Fills : Operand → Fields → Fields → Type 0
Fills form f g = AreSmall g × KeepsOthers form f g

module _ (form : Operand) (f : Fields) (small : AreSmall f) (v : ℕ) where
  fills_rs : is_rs form ≡ true → v < 32 → Fills form f (record f { rs = v })
  fills_rs own fits = (
    record { rs = fits; rt = small.rt; rd = small.rd; sh = small.sh; imm = small.imm; target = small.target },
    record { rs = λ e. absurd (cc); rt = λ e. refl; rd = λ e. refl; sh = λ e. refl; imm = λ e. refl; target = λ e. refl },
  )

  fills_rt : is_rt form ≡ true → v < 32 → Fills form f (record f { rt = v })
  fills_rt own fits = (
    record { rs = small.rs; rt = fits; rd = small.rd; sh = small.sh; imm = small.imm; target = small.target },
    record { rs = λ e. refl; rt = λ e. absurd (cc); rd = λ e. refl; sh = λ e. refl; imm = λ e. refl; target = λ e. refl },
  )

  fills_rd : is_rd form ≡ true → v < 32 → Fills form f (record f { rd = v })
  fills_rd own fits = (
    record { rs = small.rs; rt = small.rt; rd = fits; sh = small.sh; imm = small.imm; target = small.target },
    record { rs = λ e. refl; rt = λ e. refl; rd = λ e. absurd (cc); sh = λ e. refl; imm = λ e. refl; target = λ e. refl },
  )

  fills_sh : is_sh form ≡ true → v < 32 → Fills form f (record f { sh = v })
  fills_sh own fits = (
    record { rs = small.rs; rt = small.rt; rd = small.rd; sh = fits; imm = small.imm; target = small.target },
    record { rs = λ e. refl; rt = λ e. refl; rd = λ e. refl; sh = λ e. absurd (cc); imm = λ e. refl; target = λ e. refl },
  )

  fills_imm : is_imm form ≡ true → v < 2 ^ 16 → Fills form f (record f { imm = v })
  fills_imm own fits = (
    record { rs = small.rs; rt = small.rt; rd = small.rd; sh = small.sh; imm = fits; target = small.target },
    record { rs = λ e. refl; rt = λ e. refl; rd = λ e. refl; sh = λ e. refl; imm = λ e. absurd (cc); target = λ e. refl },
  )

  fills_target : is_target form ≡ true → v < 2 ^ 26 → Fills form f (record f { target = v })
  fills_target own fits = (
    record { rs = small.rs; rt = small.rt; rd = small.rd; sh = small.sh; imm = small.imm; target = fits },
    record { rs = λ e. refl; rt = λ e. refl; rd = λ e. refl; sh = λ e. refl; imm = λ e. refl; target = λ e. absurd (cc) },
  )

fills_address : (f : Fields) → AreSmall f → (offset base : ℕ) → offset < 2 ^ 16 → base < 32 → Fills Memory f (record f { imm = offset; rs = base })
fills_address f small offset base fits below = (
  record { rs = below; rt = small.rt; rd = small.rd; sh = small.sh; imm = fits; target = small.target },
  record { rs = λ e. absurd (cc); rt = λ e. refl; rd = λ e. refl; sh = λ e. refl; imm = λ e. absurd (cc); target = λ e. refl },
)

-- the fields that come out are these
stays : (form : Operand) (f g h : Fields) → ◌≡◌ {A = Result Fields AsmKind} (Ok g) (Ok h) → Fills form f g → Fills form f h
stays form f g h e fills = let same : g ≡ h = cc in subst (Fills form f) same fills

module _ (labels : List ℕ → Option ℕ) (place : ℕ) where
  operand_fills : (form : Operand) (token : List ℕ) (f g : Fields) → with_operand labels place form token f ≡ Ok g → AreSmall f → Fills form f g
  unfolding with_operand
  operand_fills Rd token f g e small =
      let r = step_of (or_fault BadOperand (register_of token)) (λ r. Ok (record f { rd = r })) g e in
      stays Rd f (record f { rd = r.0 }) g r.2 (fills_rd Rd f small r.0 refl (register_small token r.0 (some_of BadOperand (register_of token) r.0 r.1)))
  operand_fills Rs token f g e small =
      let r = step_of (or_fault BadOperand (register_of token)) (λ r. Ok (record f { rs = r })) g e in
      stays Rs f (record f { rs = r.0 }) g r.2 (fills_rs Rs f small r.0 refl (register_small token r.0 (some_of BadOperand (register_of token) r.0 r.1)))
  operand_fills Rt token f g e small =
      let r = step_of (or_fault BadOperand (register_of token)) (λ r. Ok (record f { rt = r })) g e in
      stays Rt f (record f { rt = r.0 }) g r.2 (fills_rt Rt f small r.0 refl (register_small token r.0 (some_of BadOperand (register_of token) r.0 r.1)))
  operand_fills Shift token f g e small =
      let n = step_of (or_fault BadOperand (number_of token)) (λ n. in_range (nat_lt n 32) n >>= λ n. Ok (record f { sh = n })) g e in
      let v = step_of (in_range (nat_lt n.0 32) n.0) (λ n. Ok (record f { sh = n })) g n.2 in
      stays Shift f (record f { sh = v.0 }) g v.2 (fills_sh Shift f small v.0 refl (below_small n.0 v.0 32 v.1))
  operand_fills Signed token f g e small =
      let n = step_of (or_fault BadOperand (number_of token)) (λ n. signed_half n >>= λ n. Ok (record f { imm = n })) g e in
      let v = step_of (signed_half n.0) (λ n. Ok (record f { imm = n })) g n.2 in
      stays Signed f (record f { imm = v.0 }) g v.2 (fills_imm Signed f small v.0 refl (half_small n.0 v.0 v.1))
  operand_fills Unsigned token f g e small =
      let n = step_of (or_fault BadOperand (number_of token)) (λ n. in_range (nat_lt n (2 ^ 16)) n >>= λ n. Ok (record f { imm = n })) g e in
      let v = step_of (in_range (nat_lt n.0 (2 ^ 16)) n.0) (λ n. Ok (record f { imm = n })) g n.2 in
      stays Unsigned f (record f { imm = v.0 }) g v.2 (fills_imm Unsigned f small v.0 refl (below_small n.0 v.0 (2 ^ 16) v.1))
  operand_fills Branch token f g e small =
      let t = step_of (target_of labels token) (λ t. branch_field place t >>= λ n. Ok (record f { imm = n })) g e in
      let v = step_of (branch_field place t.0) (λ n. Ok (record f { imm = n })) g t.2 in
      stays Branch f (record f { imm = v.0 }) g v.2 (fills_imm Branch f small v.0 refl (branch_small place t.0 v.0 v.1))
  operand_fills Jump token f g e small =
      let t = step_of (target_of labels token) (λ t. jump_field t >>= λ n. Ok (record f { target = n })) g e in
      let v = step_of (jump_field t.0) (λ n. Ok (record f { target = n })) g t.2 in
      stays Jump f (record f { target = v.0 }) g v.2 (fills_target Jump f small v.0 refl (jump_small t.0 v.0 v.1))
  operand_fills Memory token f g e small =
      let parts = step_of (or_fault BadOperand (memory_parts token)) (λ parts. or_fault BadOperand (register_of parts.1) >>= λ r. or_fault BadOperand (number_of parts.0) >>= λ n. signed_half n >>= λ n. Ok (record f { imm = n; rs = r })) g e in
      let base = step_of (or_fault BadOperand (register_of parts.0.1)) (λ r. or_fault BadOperand (number_of parts.0.0) >>= λ n. signed_half n >>= λ n. Ok (record f { imm = n; rs = r })) g parts.2 in
      let n = step_of (or_fault BadOperand (number_of parts.0.0)) (λ n. signed_half n >>= λ n. Ok (record f { imm = n; rs = base.0 })) g base.2 in
      let v = step_of (signed_half n.0) (λ n. Ok (record f { imm = n; rs = base.0 })) g n.2 in
      stays Memory f (record f { imm = v.0; rs = base.0 }) g v.2
      (fills_address f small v.0 base.0 (half_small n.0 v.0 v.1) (register_small parts.0.1 base.0 (some_of BadOperand (register_of parts.0.1) base.0 base.1)))

  operands_small : (forms : List Operand) (tokens : List (List ℕ)) (f g : Fields) → with_operands labels place forms tokens f ≡ Ok g → AreSmall f → AreSmall g
  unfolding with_operands
  operands_small [] tokens f g e small = let same : f ≡ g = cc in subst AreSmall same small
  operands_small (form ∷ forms) [] f g e small = absurd (cc)
  operands_small (form ∷ forms) (token ∷ tokens) f g e small =
      let next = step_of (with_operand labels place form token f) (λ h. with_operands labels place forms tokens h) g e in
      operands_small forms tokens next.0 g next.2 (operand_fills form token f next.0 next.1 small).0

  -- a field that none of the operands fills is kept
  field_kept : (is_field : Operand → Bool) (field : Fields → ℕ) → ((form : Operand) (f g : Fields) → KeepsOthers form f g → is_field form ≡ false → field g ≡ field f)
      → (forms : List Operand) (tokens : List (List ℕ)) (f g : Fields) → with_operands labels place forms tokens f ≡ Ok g → AreSmall f → list_any is_field forms ≡ false → field g ≡ field f
  unfolding with_operands
  field_kept is_field field one [] tokens f g e small none = cc
  field_kept is_field field one (form ∷ forms) [] f g e small none = absurd (cc)
  field_kept is_field field one (form ∷ forms) (token ∷ tokens) f g e small none =
      let next = step_of (with_operand labels place form token f) (λ h. with_operands labels place forms tokens h) g e in
      let fills = operand_fills form token f next.0 next.1 small in
      let both = neither (is_field form) (list_any is_field forms) none in
      field_kept is_field field one forms tokens next.0 g next.2 fills.0 both.1 ∙ one form f next.0 fills.1 both.0

  no_fields_small : AreSmall no_fields
  no_fields_small = record { rs = omega arith; rt = omega arith; rd = omega arith; sh = omega arith; imm = omega arith; target = omega arith }

  fields_unused : (forms : List Operand) (tokens : List (List ℕ)) (g : Fields) → with_operands labels place forms tokens no_fields ≡ Ok g → AreUnused forms g
  fields_unused forms tokens g e = record {
    rs = field_kept is_rs (λ f. f.rs) (λ form f g keeps. keeps.rs) forms tokens no_fields g e no_fields_small;
    rt = field_kept is_rt (λ f. f.rt) (λ form f g keeps. keeps.rt) forms tokens no_fields g e no_fields_small;
    rd = field_kept is_rd (λ f. f.rd) (λ form f g keeps. keeps.rd) forms tokens no_fields g e no_fields_small;
    sh = field_kept is_sh (λ f. f.sh) (λ form f g keeps. keeps.sh) forms tokens no_fields g e no_fields_small;
    imm = field_kept is_imm (λ f. f.imm) (λ form f g keeps. keeps.imm) forms tokens no_fields g e no_fields_small;
    target = field_kept is_target (λ f. f.target) (λ form f g keeps. keeps.target) forms tokens no_fields g e no_fields_small;
  }

  counted : (f : Form) (tokens : List (List ℕ)) (fields : Fields) (count : Bool) → cond count (with_operands labels place f.operands tokens no_fields) (Err BadOperand) ≡ Ok fields → with_operands labels place f.operands tokens no_fields ≡ Ok fields
  counted f tokens fields true e = e
  counted f tokens fields false e = absurd (cc)

  -- what the operands of a form fill is an instruction
  pub filled_fit : (f : Form) (tokens : List (List ℕ)) (fields : Fields) → FillsOwn f → operands_of labels place f tokens ≡ Ok fields → IsTileIns (instruction_of f.op fields)
  unfolding operands_of
  filled_fit f tokens fields own e =
      let read = counted f tokens fields (length tokens == length f.operands) e in
      fields_fit f fields own (operands_small f.operands tokens no_fields fields read no_fields_small) (fields_unused f.operands tokens fields read)
