-- The least end of a word from an index on.
use Rattle.std.proofs.Common.{◌≡◌, ℕ, ◌+◌, ◌-◌, ◌/◌, ◌%◌, ◌^◌, ◌<◌, ◌≤◌, true, false, inl, inr, ap, sym, ◌∙◌, arith, w16}
use Rattle.std.specs.Prelude.{◌==◌}
use Rattle.std.specs.Int.{trailing_zeros}
use Rattle.std.specs.Int.Count.{trailing_of_zero}
use Rattle.std.proofs.lemmas.Bool.{cases_eq}
use Rattle.std.proofs.lemmas.Nat.{shr-shr, shr_le}
use Rattle.std.proofs.lemmas.Nat.Bits.{bit_at-trailing_zeros, bit_at-zero}
use Rattle.raw_switch_isa.specs.Ends.{has_end}

-- what is left of a word above an index has the word's ends from there on
shifted : (word from end : ℕ) → has_end (word / 2 ^ from) end ≡ has_end word (from + end)
shifted word from end = ap (λ n. n % 2 == 1) (shr-shr word from end)

-- the lowest 1 of what is left is an end
pub least_there : (word from : ℕ) → word < 2 ^ 16 → from + trailing_zeros w16 (word / 2 ^ from) < 10
    → has_end word (from + trailing_zeros w16 (word / 2 ^ from)) ≡ true
least_there word from fits few =
    elim (cases_eq (word / 2 ^ from) 0) [
      | inl none ↦
          let all : trailing_zeros w16 (word / 2 ^ from) ≡ 16 = ap (trailing_zeros w16) none ∙ trailing_of_zero 16 in
          absurd (omega arith)
      | inr some ↦
          let small : word / 2 ^ from ≤ word = shr_le word from in
          sym (shifted word from (trailing_zeros w16 (word / 2 ^ from)))
          ∙ ap (λ bit. bit == 1) (bit_at-trailing_zeros w16 (word / 2 ^ from) (omega arith) (omega arith)).1
    ]

-- none comes before it
pub least_first : (word from end : ℕ) → word < 2 ^ 16 → from ≤ end → end < from + trailing_zeros w16 (word / 2 ^ from)
    → has_end word end ≡ false
least_first word from end fits later before =
    let place : from + (end - from) ≡ end = omega arith in
    sym (shifted word from (end - from) ∙ ap (has_end word) place)
    ∙ elim (cases_eq (word / 2 ^ from) 0) [
      | inl none ↦ ap (λ n. has_end n (end - from)) none ∙ ap (λ bit. bit == 1) (bit_at-zero (end - from))
      | inr some ↦
          let small : word / 2 ^ from ≤ word = shr_le word from in
          ap (λ bit. bit == 1) ((bit_at-trailing_zeros w16 (word / 2 ^ from) (omega arith) (omega arith)).2 (end - from) (omega arith))
    ]

-- there is none where nothing is left
pub none_left : (word from end : ℕ) → from ≤ end → word / 2 ^ from ≡ 0 → has_end word end ≡ false
none_left word from end later none =
    let place : from + (end - from) ≡ end = omega arith in
    sym (shifted word from (end - from) ∙ ap (has_end word) place)
    ∙ ap (λ n. has_end n (end - from)) none ∙ ap (λ bit. bit == 1) (bit_at-zero (end - from))
