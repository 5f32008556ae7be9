-- The ends that have a wire, in a word of ends.
use Rattle.std.proofs.Common.{◌≡◌, ◌⊎◌, ℕ, ◌*◌, ◌^◌, ◌<◌, ◌≤◌, Bool, true, false, ◌&&◌, List, [], ◌∷◌, Option, refl, sym, ap, ◌∙◌, arith, ⊎_elim, inl, inr, zero-mul}
use Rattle.std.specs.Prelude.{◌↔◌, is_some, IsSome}
use Rattle.std.specs.List.{list_all}
use Rattle.std.specs.Int.{bit_at, IsBitSet}
use Rattle.std.specs.Int.Bits.{bit_and}
use Rattle.std.proofs.lemmas.Bool.{false≢true, cases_lt, eq-eqb}
use Rattle.std.proofs.lemmas.Nat.{pow_pos}
use Rattle.std.proofs.lemmas.Nat.Bits.{and_pow, bit_at-lt}
use Rattle.raw_switch_isa.specs.Ends.{has_end}

pub zero_or_one : (n i : ℕ) → (bit_at n i ≡ 0) ⊎ (bit_at n i ≡ 1)
zero_or_one n i =
    ⊎_elim (λ (l : bit_at n i < 1). inl (omega arith)) (λ (m : 1 ≤ bit_at n i). inr (omega (arith, bit_at-lt n i))) (cases_lt (bit_at n i) 1)

-- a bit is set exactly where a test passes
end_from : (n i : ℕ) (b : Bool) → (IsBitSet n i ↔ (b ≡ true)) → has_end n i ≡ b
end_from n i true h =
    ⊎_elim (λ (none : bit_at n i ≡ 0). absurd (h.1 refl (and_pow n i ∙ ap (λ m. m * 2 ^ i) none ∙ zero-mul (2 ^ i)))) (λ (one : bit_at n i ≡ 1). eq-eqb _ 1 one) (zero_or_one n i)
end_from n i false h =
    ⊎_elim
    (λ (none : bit_at n i ≡ 0). rw none refl)
    (λ (one : bit_at n i ≡ 1). absurd (false≢true (h.0 (λ (e : bit_and n (2 ^ i) ≡ 0). let some = pow_pos i in absurd (omega (arith, some, sym (and_pow n i ∙ ap (λ m. m * 2 ^ i) one) ∙ e))))))
    (zero_or_one n i)

pub wired_end : (word end : ℕ) (o : Option ℕ) → (IsBitSet word end ↔ IsSome o) → has_end word end ≡ is_some o
wired_end word end o h = end_from word end (is_some o) h

-- tests that are alike at each element
pub same_all : {X : Type 0} (p q : X → Bool) (xs : List X) → ((x : X) → p x ≡ q x) → list_all p xs ≡ list_all q xs
same_all p q [] each = refl
same_all p q (x ∷ xs) each = rw (each x, same_all p q xs each) refl

pub and_true : (a b s : Bool) → a ≡ true → s ≡ b → s ≡ (a && b)
and_true true b s h e = e
and_true false b s h e = absurd (false≢true h)

pub and_false : (a b s : Bool) → a ≡ false → s ≡ false → s ≡ (a && b)
and_false true b s h e = absurd (false≢true (sym h))
and_false false b s h e = e
