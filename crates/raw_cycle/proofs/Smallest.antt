-- The least number that passes a test.
use Rattle.std.proofs.Common.{◌≡◌, ℕ, suc, zero, ◌<◌, ◌≤◌, Bool, true, false, cond, Option, Some, None, refl, ap, ◌∙◌, ⊎_elim, arith}
use Rattle.std.specs.Option.{MatchOption, option_or}
use Rattle.std.proofs.lemmas.Bool.{cases_lt}
use Rattle.raw_cycle.specs.Least.{NoneBelow, IsLeast, least}

least_more : (test : ℕ → Bool) (n : ℕ) (o : Option ℕ) → MatchOption o (NoneBelow test n) (IsLeast test n) → (b : Bool) → test n ≡ b → MatchOption (option_or o (cond b (Some n) None)) (NoneBelow test (suc n)) (IsLeast test (suc n))
least_more test n (Some p) l b e = record { below = let f = l.below in omega arith; passes = l.passes; none_before = l.none_before }
least_more test n None l true e = record { below = omega arith; passes = e; none_before = l }
least_more test n None l false e =
    λ q h.
    ⊎_elim
    (λ (lt : q < n). l q lt)
    (λ (ge : n ≤ q). let same : q ≡ n = omega arith in ap test same ∙ e)
    (cases_lt q n)

-- the least number below n that passes, or none
pub least_law : (test : ℕ → Bool) (n : ℕ) → MatchOption (least test n) (NoneBelow test n) (IsLeast test n)
least_law test zero = λ q h. absurd (omega arith)
least_law test (suc n) = least_more test n (least test n) (least_law test n) (test n) refl
