-- The least number that passes a test.
use Rattle.std.specs.Prelude.{◌≡◌, ℕ, zero, suc, ◌<◌, Bool, true, false, if◌then◌else◌, Option, Some, None}
use Rattle.std.specs.Option.{option_or}

-- no number below n passes
abbrev pub NoneBelow : (ℕ → Bool) → ℕ → Type 0
NoneBelow test n = (q : ℕ) → q < n → test q ≡ false

-- p is below n and passes, and no number below p passes
pub record IsLeast (test : ℕ → Bool) (n p : ℕ) : Type 0 where
  pub below : p < n
  pub passes : test p ≡ true
  pub none_before : NoneBelow test p

-- the least number below n that passes, none where none passes
abbrev pub least : (ℕ → Bool) → ℕ → Option ℕ
least test zero = None
least test (suc n) = option_or (least test n) (if test n then Some n else None)
