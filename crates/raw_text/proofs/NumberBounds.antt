-- How large the numbers of tokens are.
use Rattle.std.proofs.Common.{◌≡◌, ℕ, ◌-◌, ◌<◌, ◌≤◌, ◌^◌, ◌%◌, Bool, true, false, ◌&&◌, cond, List, length, drop, Option, Some, None, refl, arith}
use Rattle.std.specs.Prelude.{codes, nat_le}
use Rattle.std.specs.Str.Parse.{digits_value}
use Rattle.std.proofs.lemmas.Bool.Decides.{nat_tests}
use Rattle.raw_text.specs.Number.{are_digits, digits_up_to, begins_with, negated, number_of}

up_to : (most value v : ℕ) (digits small : Bool) → nat_le value most ≡ small → cond (digits && small) (Some value) None ≡ Some v → v ≤ most
up_to most value v true true small e = let same : value ≡ v = cc in let le : value ≤ most = grind (arith, nat_tests) in omega arith
up_to most value v true false small e = absurd (cc)
up_to most value v false small' small e = absurd (cc)

-- digits that are read up to a bound are within it
pub digits_small : (most radix v : ℕ) (digits : List ℕ) → digits_up_to most radix digits ≡ Some v → v ≤ most
unfolding digits_up_to
digits_small most radix v digits e = up_to most (digits_value radix digits) v (are_digits radix digits) (nat_le (digits_value radix digits) most) refl e

negated_small : (o : Option ℕ) (v : ℕ) → negated o ≡ Some v → v < 2 ^ 32
negated_small None v e = absurd (cc)
negated_small (Some n) v e = let same : (4294967296 - n) % 4294967296 ≡ v = cc in omega (arith, same)

number_by : (v : ℕ) (bytes : List ℕ) (minus hex short : Bool)
    → cond minus (negated (digits_up_to (2 ^ 31) 10 (drop 1 bytes))) (cond hex (cond short (digits_up_to (2 ^ 32 - 1) 16 (drop 2 bytes)) None) (digits_up_to (2 ^ 32 - 1) 10 bytes)) ≡ Some v → v < 2 ^ 32
number_by v bytes true hex short e = negated_small (digits_up_to (2 ^ 31) 10 (drop 1 bytes)) v e
number_by v bytes false true true e = let small = digits_small (2 ^ 32 - 1) 16 v (drop 2 bytes) e in omega arith
number_by v bytes false true false e = absurd (cc)
number_by v bytes false false short e = let small = digits_small (2 ^ 32 - 1) 10 v bytes e in omega arith

-- a number is a word
pub number_small : (bytes : List ℕ) (v : ℕ) → number_of bytes ≡ Some v → v < 2 ^ 32
unfolding number_of
number_small bytes v e = number_by v bytes (begins_with (codes "-") bytes) (begins_with (codes "0x") bytes) (nat_le (length (drop 2 bytes)) 8) e
