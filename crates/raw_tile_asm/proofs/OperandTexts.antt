-- The text of an operand is read as the field that it writes, and is a token.
use Rattle.std.proofs.Common.{◌≡◌, ◌⊎◌, ℕ, ◌+◌, ◌-◌, ◌%◌, ◌<◌, ◌≤◌, ◌^◌, Bool, true, false, ◌&&◌, ltb, List, ◌∷◌, length, get_or, Option, Some, Ok, refl, arith, ⊎_elim, inl, inr}
use Rattle.std.specs.Prelude.{nat_lt, nat_le, ◌==◌}
use Rattle.std.specs.Fmt.{decimal}
use Rattle.std.proofs.lemmas.Bool.{lt-ltb, le-ltb, cases_lt}
use Rattle.std.proofs.lemmas.Bool.Decides.{nat_tests}
use Rattle.raw_tile_isa.specs.declared.limits.TheConstants.{MAX_TILE_CODE}
use Rattle.raw_text.specs.Lines.{IsToken}
use Rattle.raw_text.specs.Number.{number_of}
use Rattle.raw_text.proofs.NumberTexts.{decimal_up_to, decimal_read, negative_read, decimal_token, negative_token, first_low, first_high, no_leading_zero, decimal_length, hex_read, hex_token, hex_length}
use Rattle.raw_asm.specs.declared.operand.Target.TheVariants.{Number}
use Rattle.raw_asm.specs.Names.{starts_number, is_decimal}
use Rattle.raw_asm.specs.Language.{target_of}
use Rattle.raw_tile_asm.specs.Operand.{register_of, signed_half, is_short, branch_field}
use Rattle.raw_tile_asm.specs.Listing.{register_text, signed_text, hex_text, branch_text}

no_zero_first : (b : Bool) (first : Bool) → (b ≡ true → first ≡ false) → (b && first) ≡ false
no_zero_first true first h = h refl
no_zero_first false first h = refl

from_test : (n : ℕ) → ltb 1 n ≡ true → 1 < n
from_test n e = grind (arith, nat_tests)

-- a register
pub register_read : (r : ℕ) → r < 32 → register_of (register_text r) ≡ Some r
unfolding register_of
register_read r small =
    let plain = no_zero_first (nat_lt 1 (length (decimal r))) (get_or (decimal r) 0 0 == 48) (λ e. no_leading_zero r (omega arith) (from_test (length (decimal r)) e)) in
    rw plain (decimal_up_to r 31 (omega arith) (omega arith))

-- what a number has to be to stand for 16 bits
half_of : (n imm : ℕ) → ((n ≡ imm) × (imm < 2 ^ 15)) ⊎ ((n + 2 ^ 16 ≡ 2 ^ 32 + imm) × (2 ^ 15 ≤ imm) × (imm < 2 ^ 16)) → signed_half n ≡ Ok imm
half_of n imm h =
    let short : is_short n ≡ true = ⊎_elim {C = is_short n ≡ true} (λ (a : (n ≡ imm) × (imm < 2 ^ 15)). let e = a.0 in let l = a.1 in grind (arith, nat_tests)) (λ (b : (n + 2 ^ 16 ≡ 2 ^ 32 + imm) × (2 ^ 15 ≤ imm) × (imm < 2 ^ 16)). let e = b.0 in let l = b.1 in let m = b.2 in grind (arith, nat_tests)) h in
    let low : n % 65536 ≡ imm = ⊎_elim {C = n % 65536 ≡ imm} (λ (a : (n ≡ imm) × (imm < 2 ^ 15)). let e = a.0 in let l = a.1 in omega arith) (λ (b : (n + 2 ^ 16 ≡ 2 ^ 32 + imm) × (2 ^ 15 ≤ imm) × (imm < 2 ^ 16)). let e = b.0 in let l = b.1 in let m = b.2 in omega arith) h in
    rw (short, low) refl

-- a signed immediate
pub signed_read : (imm : ℕ) → imm < 2 ^ 16 → (n : ℕ) × (number_of (signed_text imm) ≡ Some n) × (signed_half n ≡ Ok imm)
signed_read imm small =
    ⊎_elim
    (λ (low : imm < 2 ^ 15). (imm, rw (lt-ltb imm 32768 low) (decimal_read imm (omega arith)), half_of imm imm (inl (refl, low))))
    (λ (high : 2 ^ 15 ≤ imm).
    (4294967296 - (65536 - imm), rw (le-ltb imm 32768 high) (negative_read (65536 - imm) (omega arith) (omega arith)), half_of (4294967296 - (65536 - imm)) imm (inr (omega arith, high, small))))
    (cases_lt imm (2 ^ 15))

starts_digit : (n : ℕ) → n < 2 ^ 64 → starts_number (decimal n) ≡ true
starts_digit n small =
    let low = first_low n small in
    let high = first_high n small in
    let d : is_decimal (get_or (decimal n) 0 0) ≡ true = grind (arith, nat_tests) in
    rw d refl

-- a number where a label or a number may stand
pub target_read : (labels : List ℕ → Option ℕ) (n : ℕ) → n < 2 ^ 32 → target_of labels (decimal n) ≡ Ok (Number n)
unfolding target_of
target_read labels n small = rw (starts_digit n (omega arith), decimal_read n small) refl

negative_target_read : (labels : List ℕ → Option ℕ) (n : ℕ) → 0 < n → n ≤ 2 ^ 31 → target_of labels (45 ∷ decimal n) ≡ Ok (Number (2 ^ 32 - n))
unfolding target_of
negative_target_read labels n some small = rw (negative_read n some small) refl

-- the target of a branch
pub branch_read : (labels : List ℕ → Option ℕ) (place imm : ℕ) → place ≤ MAX_TILE_CODE → imm < 2 ^ 16 → (t : ℕ) × (target_of labels (branch_text place imm) ≡ Ok (Number t)) × (branch_field place (Number t) ≡ Ok imm)
branch_read labels place imm near small =
    ⊎_elim
    (λ (low : imm < 2 ^ 15). (place + 1 + imm, rw (lt-ltb imm 32768 low) (target_read labels (place + 1 + imm) (omega arith)), half_of ((place + 1 + imm + 4294967296 - (place + 1)) % 4294967296) imm (inl (omega arith, low))))
    (λ (high : 2 ^ 15 ≤ imm).
    ⊎_elim
    (λ (before : place + 1 + imm < 65536).
    let test : nat_le 65536 (place + 1 + imm) ≡ false = grind (arith, nat_tests) in
    (4294967296 - (65536 - (place + 1 + imm)), rw (le-ltb imm 32768 high, test) (negative_target_read labels (65536 - (place + 1 + imm)) (omega arith) (omega arith)), half_of ((4294967296 - (65536 - (place + 1 + imm)) + 4294967296 - (place + 1)) % 4294967296) imm (inr (omega arith, high, small))))
    (λ (after : 65536 ≤ place + 1 + imm).
    let test : nat_le 65536 (place + 1 + imm) ≡ true = grind (arith, nat_tests) in
    (place + 1 + imm - 65536, rw (le-ltb imm 32768 high, test) (target_read labels (place + 1 + imm - 65536) (omega arith)), half_of ((place + 1 + imm - 65536 + 4294967296 - (place + 1)) % 4294967296) imm (inr (omega arith, high, small))))
    (cases_lt (place + 1 + imm) 65536))
    (cases_lt imm (2 ^ 15))

-- an unsigned immediate
pub hex_text_read : (n : ℕ) → n < 2 ^ 16 → number_of (hex_text n) ≡ Some n
hex_text_read n small = hex_read 4 n (omega arith) (omega arith) small

-- a token of few bytes
pub record IsShortToken (text : List ℕ) : Type 0 where
  pub token : IsToken text
  pub short : length text ≤ 24

decimal_short : (n : ℕ) → n < 2 ^ 32 → IsShortToken (decimal n)
decimal_short n small = record { token = decimal_token n (omega arith); short = omega (arith, decimal_length n small) }

negative_short : (n : ℕ) → n < 2 ^ 32 → IsShortToken (45 ∷ decimal n)
negative_short n small = record { token = negative_token n (omega arith); short = omega (arith, decimal_length n small) }

pub number_short : (n : ℕ) → n < 2 ^ 32 → IsShortToken (decimal n)
number_short n small = decimal_short n small

pub register_short : (r : ℕ) → r < 32 → (IsToken (register_text r)) × (length (register_text r) ≤ 11)
register_short r small =
    let d = decimal_token r (omega arith) in
    (record { some = omega arith; solid = d.solid }, omega (arith, decimal_length r (omega arith)))

pub signed_short : (imm : ℕ) → imm < 2 ^ 16 → (IsToken (signed_text imm)) × (length (signed_text imm) ≤ 11)
signed_short imm small =
    ⊎_elim
    (λ (low : imm < 2 ^ 15). rw (lt-ltb imm 32768 low) (decimal_token imm (omega arith), omega (arith, decimal_length imm (omega arith))))
    (λ (high : 2 ^ 15 ≤ imm). rw (le-ltb imm 32768 high) (negative_token (65536 - imm) (omega arith), omega (arith, decimal_length (65536 - imm) (omega arith))))
    (cases_lt imm (2 ^ 15))

pub branch_short : (place imm : ℕ) → place ≤ MAX_TILE_CODE → imm < 2 ^ 16 → IsShortToken (branch_text place imm)
branch_short place imm near small =
    ⊎_elim
    (λ (low : imm < 2 ^ 15). rw (lt-ltb imm 32768 low) (decimal_short (place + 1 + imm) (omega arith)))
    (λ (high : 2 ^ 15 ≤ imm).
    ⊎_elim
    (λ (before : place + 1 + imm < 65536). let test : nat_le 65536 (place + 1 + imm) ≡ false = grind (arith, nat_tests) in rw (le-ltb imm 32768 high, test) (negative_short (65536 - (place + 1 + imm)) (omega arith)))
    (λ (after : 65536 ≤ place + 1 + imm). let test : nat_le 65536 (place + 1 + imm) ≡ true = grind (arith, nat_tests) in rw (le-ltb imm 32768 high, test) (decimal_short (place + 1 + imm - 65536) (omega arith)))
    (cases_lt (place + 1 + imm) 65536))
    (cases_lt imm (2 ^ 15))

pub hex_short : (n : ℕ) → n < 2 ^ 16 → IsShortToken (hex_text n)
hex_short n small = record { token = hex_token 4 n (omega arith) (omega arith) small; short = omega (arith, hex_length 4 n (omega arith) (omega arith) small) }
