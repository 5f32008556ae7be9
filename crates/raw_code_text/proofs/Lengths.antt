-- How long small pieces of a line are.
use Rattle.std.proofs.Common.{ℕ, ◌<◌, ◌≤◌, Bool, true, false, length, arith}
use Rattle.std.specs.Prelude.{◌==◌, codes, if◌then◌else◌}
use Rattle.std.specs.Fmt.{decimal}
use Rattle.std.proofs.lemmas.Fmt.{length-decimal-le}
use Rattle.raw_asm.specs.Listing.{separator}

-- a byte has at most three digits
pub byte_length : (n : ℕ) → n < 256 → length (decimal n) ≤ 3
byte_length n small = length-decimal-le 3 n (omega arith) (omega arith) (omega arith)

-- what stands before an operand
pub separator_short : (k : ℕ) → length (separator k) ≤ 2
separator_short k = by_test (k == 0)
  where
    by_test : (b : Bool) → length (if b then codes " " else codes ", ") ≤ 2
    by_test true = omega arith
    by_test false = omega arith
