-- Which bytes stand in a listed line, and how many.
use Rattle.std.proofs.Common.{◌≡◌, ℕ, suc, ◌-◌, ◌%◌, ◌^◌, ◌<◌, ◌≤◌, Bool, true, false, not, ◌&&◌, ◌||◌, List, [], ◌∷◌, ◌++◌, length, refl, sym, ap, ◌∙◌, arith, ⊎_elim, length-append, append_assoc}
use Rattle.std.specs.Prelude.{slice_index}
use Rattle.std.specs.List.{list_all, list_any}
use Rattle.std.specs.Fmt.{digits, padded_integral, char_count}
use Rattle.std.proofs.lemmas.Bool.{lt-ltb, le-ltb, cases_lt}
use Rattle.std.proofs.lemmas.List.Folds.{list_all-append}
use Rattle.raw_switch_isa.specs.declared.table.SwitchOperand.{SwitchOperand}
use Rattle.raw_switch_isa.specs.declared.table.SwitchOperand.TheVariants.{Rd, Src, Target}
use Rattle.raw_switch_isa.specs.declared.instruction.SwitchSource.{SwitchSource}
use Rattle.raw_switch_isa.specs.declared.instruction.SwitchSource.TheVariants.{Register, Input}
use Rattle.raw_switch_isa.specs.Instruction.{SwitchInstruction}
use Rattle.raw_switch_asm.specs.Letters.{sides}
use Rattle.raw_switch_asm.specs.Listing.{register_text, network_text, side_letter, end_text, move_text, operand_text, source_text, route_text}
use Rattle.raw_switch_asm.proofs.TextLaws.{TextLaws}

-- the fields of an instruction are below their limits
pub record AreSmall (ins : SwitchInstruction) : Type 0 where
  pub rd : ins.rd < 4
  pub src : ins.src < 14
  pub target : ins.target < 2 ^ 16
  pub rsel : ins.rsel < 4

-- a register that is sent is small
abbrev pub IsShort : SwitchSource → Type 0
IsShort (Register register) = register < 4
IsShort (Input input) = Unit {0}

pub append_passes : (p : ℕ → Bool) (xs ys : List ℕ) → list_all p xs ≡ true → list_all p ys ≡ true → list_all p (xs ++ ys) ≡ true
append_passes p xs ys front back = list_all-append p xs ys ∙ rw (front, back) refl

-- the bytes of what a line has pass each test that these bytes pass
module _ (l : TextLaws) (p : ℕ → Bool) (digits : (b : ℕ) → 48 ≤ b → b ≤ 57 → p b ≡ true) (colon : p 58 ≡ true) (r : p 114 ≡ true) (letters : (s : ℕ) → s < 5 → p (slice_index sides s) ≡ true) where
  register_passes : (register : ℕ) → register < 4 → list_all p (register_text register) ≡ true
  register_passes register small = rw r (l.passes p register (omega arith) digits)

  network_passes : (end : ℕ) → list_all p (network_text end) ≡ true
  network_passes end =
      let one = digits 49 (omega arith) (omega arith) in
      let two = digits 50 (omega arith) (omega arith) in
      ⊎_elim {C = list_all p (network_text end) ≡ true}
      (λ (first : end < 5). rw (lt-ltb end 5 first, one, colon) refl)
      (λ (second : 5 ≤ end). rw (le-ltb end 5 second, two, colon) refl)
      (cases_lt end 5)

  side_passes : (end : ℕ) → list_all p (side_letter end ∷ []) ≡ true
  side_passes end = rw (letters (end % 5) (omega arith)) refl

  end_passes : (end : ℕ) → list_all p (end_text end) ≡ true
  end_passes end = append_passes p (network_text end) (side_letter end ∷ []) (network_passes end) (side_passes end)

  move_passes : (src : ℕ) → list_all p (move_text src) ≡ true
  move_passes src =
      ⊎_elim {C = list_all p (move_text src) ≡ true}
      (λ (register : src < 4). rw (lt-ltb src 4 register) (register_passes src register))
      (λ (input : 4 ≤ src). rw (le-ltb src 4 input) (end_passes (src - 4)))
      (cases_lt src 4)

  pub operand_passes : (ins : SwitchInstruction) → AreSmall ins → (operand : SwitchOperand) → list_all p (operand_text ins operand) ≡ true
  operand_passes ins small Rd = register_passes ins.rd small.rd
  operand_passes ins small Src = move_passes ins.src
  operand_passes ins small Target = l.passes p ins.target (let h = small.target in omega arith) digits

  source_passes : (source : SwitchSource) → IsShort source → list_all p (source_text source) ≡ true
  source_passes (Register register) small = register_passes register small
  source_passes (Input input) small = side_passes input

  pub route_passes : (output : ℕ) (source : SwitchSource) → IsShort source → p 62 ≡ true → list_all p (route_text output source) ≡ true
  route_passes output source small arrow =
      append_passes p (network_text output) (source_text source ++ 62 ∷ side_letter output ∷ []) (network_passes output)
      (append_passes p (source_text source) (62 ∷ side_letter output ∷ []) (source_passes source small) (rw (arrow, letters (output % 5) (omega arith)) refl))

any_behind : (p : ℕ → Bool) (xs : List ℕ) (y : ℕ) (ys : List ℕ) → p y ≡ true → list_any p (xs ++ y ∷ ys) ≡ true
any_behind p [] y ys here = rw here refl
any_behind p (x ∷ xs) y ys here = rw (any_behind p xs y ys here) (or_true (p x))
  where
    or_true : (b : Bool) → (b || true) ≡ true
    or_true true = refl
    or_true false = refl

network_length : (end : ℕ) → length (network_text end) ≡ 2
network_length end =
    ⊎_elim {C = length (network_text end) ≡ 2}
    (λ (first : end < 5). rw (lt-ltb end 5 first) refl)
    (λ (second : 5 ≤ end). rw (le-ltb end 5 second) refl)
    (cases_lt end 5)

module _ (l : TextLaws) where
  register_length : (register : ℕ) → register < 4 → length (register_text register) ≤ 2
  unfolding digits padded_integral char_count
  register_length (suc (suc (suc (suc register)))) small = absurd (omega arith)
  register_length _ small = omega arith

  end_length : (end : ℕ) → length (end_text end) ≡ 3
  end_length end = let network = network_length end in length-append (network_text end) (side_letter end ∷ []) ∙ omega arith

  move_length : (src : ℕ) → (0 < length (move_text src)) × (length (move_text src) ≤ 11)
  move_length src =
      ⊎_elim {C = (0 < length (move_text src)) × (length (move_text src) ≤ 11)}
      (λ (register : src < 4). let long = register_length src register in rw (lt-ltb src 4 register) (omega arith, omega (arith, long)))
      (λ (input : 4 ≤ src). let long = end_length (src - 4) in rw (le-ltb src 4 input) (omega arith, omega arith))
      (cases_lt src 4)

  pub operand_length : (ins : SwitchInstruction) → AreSmall ins → (operand : SwitchOperand) → (0 < length (operand_text ins operand)) × (length (operand_text ins operand) ≤ 11)
  operand_length ins small Rd = (omega arith, omega (arith, register_length ins.rd small.rd))
  operand_length ins small Src = move_length ins.src
  operand_length ins small Target = let h = small.target in let long = l.short ins.target (omega arith) in let some = (l.token ins.target (omega arith)).some in (some, omega arith)

  source_length : (source : SwitchSource) → IsShort source → length (source_text source) ≤ 2
  source_length (Register register) small = register_length register small
  source_length (Input input) small = omega arith

  pub route_length : (output : ℕ) (source : SwitchSource) → IsShort source → (0 < length (route_text output source)) × (length (route_text output source) ≤ 6)
  route_length output source small =
      let network = network_length output in
      let long = source_length source small in
      let back = length-append (source_text source) (62 ∷ side_letter output ∷ []) in
      let whole = length-append (network_text output) (source_text source ++ 62 ∷ side_letter output ∷ []) in
      (omega arith, omega arith)

-- a route has a '>'
pub route_has_arrow : (p : ℕ → Bool) (output : ℕ) (source : SwitchSource) → p 62 ≡ true → list_any p (route_text output source) ≡ true
route_has_arrow p output source here =
    ap (list_any p) (sym (append_assoc (network_text output) (source_text source) (62 ∷ side_letter output ∷ [])))
    ∙ any_behind p (network_text output ++ source_text source) 62 (side_letter output ∷ []) here

-- no byte passes where each fails
pub none_pass : (p : ℕ → Bool) (xs : List ℕ) → list_all (λ b. not (p b)) xs ≡ true → list_any p xs ≡ false
none_pass p [] all = refl
none_pass p (x ∷ xs) all = by_test (p x) (none_pass p xs) all
  where
    by_test : (b : Bool) → (list_all (λ y. not (p y)) xs ≡ true → list_any p xs ≡ false) → (not b && list_all (λ y. not (p y)) xs) ≡ true → (b || list_any p xs) ≡ false
    by_test true rest e = absurd (cc)
    by_test false rest e = rest e
