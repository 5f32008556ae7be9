-- Bits that are set one after another.
use Rattle.std.proofs.Common.{◌≡◌, ℕ, ◌*◌, ◌^◌, ◌<◌, ◌≤◌, Bool, true, false, cond, refl, sym, ◌∙◌, ap, zero-mul, arith}
use Rattle.std.specs.Int.{bit_at, IsBitSet}
use Rattle.std.proofs.lemmas.Nat.{pow_pos}
use Rattle.std.proofs.lemmas.Nat.Bits.{and_pow}

-- below n the bits of a number are a test's answers, and from there on they are 0
pub record AreBits (test : ℕ → Bool) (n bits : ℕ) : Type 0 where
  pub below : (i : ℕ) → i < n → bit_at bits i ≡ cond (test i) 1 0
  pub above : (i : ℕ) → n ≤ i → bit_at bits i ≡ 0

-- a bit that is a test's answer is set exactly where the test passes
pub set_from : (n i : ℕ) (b : Bool) → bit_at n i ≡ cond b 1 0 → IsBitSet n i → b ≡ true
set_from n i true e h = refl
set_from n i false e h = absurd (h (and_pow n i ∙ ap (λ m. m * 2 ^ i) e ∙ zero-mul (2 ^ i)))

pub set_at : (n i : ℕ) (b : Bool) → bit_at n i ≡ cond b 1 0 → b ≡ true → IsBitSet n i
set_at n i true e h z =
    let some = pow_pos i in
    absurd (omega (arith, sym (and_pow n i ∙ ap (λ m. m * 2 ^ i) e)))
set_at n i false e h z = cc
