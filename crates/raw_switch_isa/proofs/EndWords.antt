-- Words of ends, end by end.
use Rattle.std.proofs.Common.{◌≡◌, ◌≢◌, ℕ, suc, ◌+◌, ◌*◌, ◌%◌, ◌^◌, ◌<◌, ◌≤◌, max, ⊎_elim, Bool, false, ◌||◌, ◌&&◌, ◌∷◌, length, drop, refl, sym, ap, ◌∙◌, arith}
use Rattle.std.specs.Prelude.{◌==◌, nat_lt, is_some, filter}
use Rattle.std.specs.List.{list_any}
use Rattle.std.specs.Int.{bit_at}
use Rattle.std.specs.Int.Bits.{bit_or}
use Rattle.std.proofs.Math.Bool.{or_assoc, or-false, and-true}
use Rattle.std.proofs.lemmas.Bool.{cases_eq, cases_lt, lt-ltb, eq-eqb, ne_eqb}
use Rattle.std.proofs.lemmas.Bool.Decides.{nat_tests}
use Rattle.std.proofs.lemmas.List.{get_or_past}
use Rattle.std.proofs.lemmas.Nat.{pow_below}
use Rattle.std.proofs.lemmas.Nat.Bits.{bit_at_or, bit_at-lt, bit_at-pow_same, bit_at-pow_other}
use Rattle.raw_switch_isa.specs.Instruction.{SwitchInstruction}
use Rattle.raw_switch_isa.specs.Ends.{ends, has_end, coded_source, is_filled}

-- a power of two has one end
power_end : (n end : ℕ) → has_end (2 ^ n) end ≡ (n == end)
power_end n end = ⊎_elim {C = has_end (2 ^ n) end ≡ (n == end)}
    (λ (same : n ≡ end). ap (λ bit. bit == 1) (ap (bit_at (2 ^ n)) (sym same) ∙ bit_at-pow_same n) ∙ sym (eq-eqb n end same))
    (λ (other : n ≢ end). ap (λ bit. bit == 1) (bit_at-pow_other n end (λ same. other (sym same))) ∙ sym (ne_eqb n end other))
    (cases_eq n end)

-- one moved left by less than the width has one end
pub one_end : (n end : ℕ) → n < 16 → has_end (1 * 2 ^ n % 2 ^ 16) end ≡ (n == end)
one_end n end below =
    let small : 2 ^ n < 2 ^ 16 = pow_below n 16 below in
    let word : 1 * 2 ^ n % 65536 ≡ 2 ^ n = omega arith in
    ap (λ word. has_end word end) word ∙ power_end n end

-- of two bits one is 1, or neither
bits_or : (a b : ℕ) → a < 2 → b < 2 → (max a b == 1) ≡ ((a == 1) || (b == 1))
bits_or a b small below = grind (arith, nat_tests)

-- two words joined have the ends of both
pub has_end-or : (a b end : ℕ) → has_end (bit_or a b) end ≡ (has_end a end || has_end b end)
has_end-or a b end = ap (λ bit. bit == 1) (bit_at_or a b end) ∙ bits_or (bit_at a end) (bit_at b end) (bit_at-lt a end) (bit_at-lt b end)

-- the ends from one on are that end and those behind it
drop_ends : (i : ℕ) → i < 10 → drop i ends ≡ i ∷ drop (i + 1) ends
unfolding ends
drop_ends (suc (suc (suc (suc (suc (suc (suc (suc (suc (suc i)))))))))) h = absurd (omega arith)
drop_ends _ h = refl

-- one end more: what it adds joins the word
pub any_more : (f : ℕ → Bool) (word added : ℕ) (end i : ℕ) → i < 10 → has_end added end ≡ f i
    → (has_end (bit_or word added) end || list_any f (drop (i + 1) ends)) ≡ (has_end word end || list_any f (drop i ends))
any_more f word added end i below adds =
    ap (λ b. b || list_any f (drop (i + 1) ends)) (has_end-or word added end)
    ∙ or_assoc (has_end word end) (has_end added end) (list_any f (drop (i + 1) ends))
    ∙ ap (λ b. has_end word end || (b || list_any f (drop (i + 1) ends))) adds
    ∙ ap (λ es. has_end word end || list_any f es) (sym (drop_ends i below))

-- no end is left: the word has what was sought
pub any_done : (f : ℕ → Bool) (word end i : ℕ) → i ≡ 10 → (has_end word end || list_any f (drop i ends)) ≡ has_end word end
unfolding ends
any_done f word end i e = ap (λ k. has_end word end || list_any f (drop k ends)) e ∙ or-false (has_end word end)

-- a test of an end below one more is the test of that end or of one below
below_more : (filled : ℕ → Bool) (end i : ℕ) → ((filled end && nat_lt end i) || (filled i && i == end)) ≡ (filled end && nat_lt end (i + 1))
below_more filled end i = grind (arith, nat_tests)

-- one output more: where it is filled it joins the word
pub filled_more : (filled : ℕ → Bool) (word added end i : ℕ) → has_end word end ≡ (filled end && nat_lt end i) → has_end added end ≡ (filled i && i == end)
    → has_end (bit_or word added) end ≡ (filled end && nat_lt end (i + 1))
filled_more filled word added end i has adds =
    has_end-or word added end
    ∙ ap (λ b. b || has_end added end) has
    ∙ ap (λ b. (filled end && nat_lt end i) || b) adds
    ∙ below_more filled end i

-- no output past the ten is filled
pub filled_done : (i : SwitchInstruction) (end k : ℕ) → length i.routes ≡ 10 → k ≡ 10 → (is_filled i end && nat_lt end k) ≡ is_filled i end
filled_done i end k ten e = ⊎_elim {C = (is_filled i end && nat_lt end k) ≡ is_filled i end}
    (λ (inside : end < 10). ap (λ b. is_filled i end && b) (lt-ltb end k (omega arith)) ∙ and-true (is_filled i end))
    (λ (past : 10 ≤ end).
    let none : is_filled i end ≡ false = ap (λ code. is_some (coded_source i.rsel end code)) (get_or_past i.routes end 0 (omega arith)) in
    ap (λ b. b && nat_lt end k) none ∙ sym none)
    (cases_lt end 10)

-- two tests that agree keep the same ends
pub filter_same : (p q : ℕ → Bool) → ((end : ℕ) → p end ≡ q end) → filter p ends ≡ filter q ends
filter_same p q same = λ x. filter (λ end. same end x) ends
