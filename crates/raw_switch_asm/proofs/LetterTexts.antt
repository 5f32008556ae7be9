-- Registers and ends are read as they are written.
use Rattle.std.proofs.Common.{◌≡◌, ℕ, suc, ◌+◌, ◌-◌, ◌*◌, ◌/◌, ◌%◌, ◌<◌, ◌≤◌, false, List, [], ◌∷◌, ◌++◌, Some, None, refl, ap, arith, ⊎_elim}
use Rattle.std.specs.Prelude.{◌==◌, slice_index}
use Rattle.std.specs.Fmt.{decimal}
use Rattle.std.proofs.lemmas.Fmt.{decimal_digit}
use Rattle.std.proofs.lemmas.Bool.{lt-ltb, le-ltb, cases_lt}
use Rattle.std.proofs.lemmas.Bool.Decides.{nat_tests}
use Rattle.raw_switch_isa.specs.declared.instruction.SwitchSource.{SwitchSource}
use Rattle.raw_switch_isa.specs.declared.instruction.SwitchSource.TheVariants.{Register, Input}
use Rattle.raw_switch_asm.specs.Letters.{sides, registers, letter_in, register_of, on_network, end_of}
use Rattle.raw_switch_asm.specs.Operand.{source_field, move_source_of}
use Rattle.raw_switch_asm.specs.Route.{is_arrow, arrow_parts, source_on, route_on, route_of}
use Rattle.raw_switch_asm.specs.Listing.{register_text, network_text, side_letter, end_text, move_text, source_text, route_text}

pub register_byte : (r : ℕ) → r < 4 → decimal r ≡ (48 + r) ∷ []
register_byte r lt = decimal_digit r (omega arith)

register_digit : (r : ℕ) → r < 4 → letter_in registers ((48 + r) ∷ []) ≡ Some r
unfolding letter_in
register_digit (suc (suc (suc (suc r)))) h = absurd (omega arith)
register_digit _ h = refl

pub register_read : (r : ℕ) → r < 4 → register_of (register_text r) ≡ Some r
unfolding register_of
register_read r lt = rw (register_byte r lt) (register_digit r lt)

pub side_read : (s : ℕ) → s < 5 → letter_in sides (slice_index sides s ∷ []) ≡ Some s
unfolding letter_in
side_read (suc (suc (suc (suc (suc s))))) h = absurd (omega arith)
side_read _ h = refl

register_no_side : (r : ℕ) → r < 4 → letter_in sides (register_text r) ≡ None
unfolding letter_in
register_no_side r lt = rw (register_byte r lt) refl

pub network_read : (end : ℕ) (rest : List ℕ) → end < 10 → on_network (network_text end ++ rest) ≡ Some (end / 5, rest)
unfolding on_network
network_read end rest lt =
    ⊎_elim {C = on_network (network_text end ++ rest) ≡ Some (end / 5, rest)}
    (λ (first : end < 5). let none : end / 5 ≡ 0 = omega arith in rw (lt-ltb end 5 first, none) refl)
    (λ (second : 5 ≤ end). let one : end / 5 ≡ 1 = omega arith in rw (le-ltb end 5 second, one) refl)
    (cases_lt end 5)

end_back : (end : ℕ) → 5 * (end / 5) + end % 5 ≡ end
end_back end = omega arith

pub end_read : (end : ℕ) → end < 10 → end_of (end_text end) ≡ Some end
unfolding end_of
end_read end lt = rw (network_read end (side_letter end ∷ []) lt, side_read (end % 5) (omega arith)) (ap Some (end_back end))

-- an end is no register
end_no_register : (end : ℕ) → register_of (end_text end) ≡ None
unfolding register_of
end_no_register end =
    ⊎_elim {C = register_of (end_text end) ≡ None}
    (λ (first : end < 5). rw (lt-ltb end 5 first) refl)
    (λ (second : 5 ≤ end). rw (le-ltb end 5 second) refl)
    (cases_lt end 5)

-- what a move takes its value from is read as the field src
pub move_read : (src : ℕ) → src < 14 → (source : SwitchSource) × (move_source_of (move_text src) ≡ Some source) × (source_field source ≡ src)
move_read src lt =
    ⊎_elim {C = (source : SwitchSource) × (move_source_of (move_text src) ≡ Some source) × (source_field source ≡ src)}
    (λ (register : src < 4). (Register src, rw (lt-ltb src 4 register, register_read src register) refl, refl))
    (λ (input : 4 ≤ src). (Input (src - 4), rw (le-ltb src 4 input, end_no_register (src - 4), end_read (src - 4) (omega arith)) refl, omega arith))
    (cases_lt src 4)

-- a source that a route to an output can have
abbrev pub IsFor : ℕ → SwitchSource → Type 0
IsFor output (Register register) = register < 4
IsFor output (Input input) = (input < 10) × (input / 5 ≡ output / 5)

source_read : (output : ℕ) (source : SwitchSource) → IsFor output source → source_on (output / 5) (source_text source) ≡ Some source
unfolding source_on
source_read output (Register r) good = rw (register_no_side r good, register_read r good) refl
source_read output (Input input) good =
    let same = good.1 in
    let back : 5 * (output / 5) + input % 5 ≡ input = omega arith in
    rw (side_read (input % 5) (omega arith), back) refl

no_arrow : (s : ℕ) → s < 5 → is_arrow (slice_index sides s) ≡ false
no_arrow (suc (suc (suc (suc (suc s))))) h = absurd (omega arith)
no_arrow _ h = refl

parts_read : (output : ℕ) (source : SwitchSource) (letter : ℕ) → IsFor output source → arrow_parts (source_text source ++ 62 ∷ letter ∷ []) ≡ Some (source_text source, letter ∷ [])
parts_read output (Register r) letter good =
    let other : (48 + r == 62) ≡ false = grind (arith, nat_tests) in
    rw (register_byte r good, other) refl
parts_read output (Input input) letter good = rw (no_arrow (input % 5) (omega arith)) refl

pub route_read : (output : ℕ) (source : SwitchSource) → output < 10 → IsFor output source → route_of (route_text output source) ≡ Some (record { output = output; source = source })
unfolding route_of route_on
route_read output source lt good =
    rw (network_read output (source_text source ++ 62 ∷ side_letter output ∷ []) lt, parts_read output source (side_letter output) good, side_read (output % 5) (omega arith), source_read output source good, end_back output) refl
