-- Sixteen bits in hexadecimal digits.
use Rattle.std.proofs.Common.{◌≡◌, ◌∙◌, ℕ, suc, ◌/◌, ◌%◌, ◌<◌, ◌≤◌, false, List, [], ◌∷◌, refl, sym, ap, ⊎_elim, arith}
use Rattle.std.specs.Prelude.{◌==◌}
use Rattle.std.specs.Fmt.{digits, digits_onto, digit_glyph, padded_integral, char_count}
use Rattle.std.proofs.lemmas.Bool.{cases_lt}
use Rattle.std.proofs.lemmas.Bool.Decides.{nat_tests}
use Rattle.raw_text.specs.Number.{hex_digits}

-- the last digit of a number, where there are more
step : (k n : ℕ) (acc : List ℕ) → 16 ≤ n → digits_onto (suc k) 16 false n acc ≡ digits_onto k 16 false (n / 16) (digit_glyph false (n % 16) ∷ acc)
step k n acc more =
    let some : 1 ≤ n / 16 = omega (arith, more) in
    let test : (n / 16 == 0) ≡ false = grind (arith, nat_tests) in
    rw test refl

-- the first digit
last : (k n : ℕ) (acc : List ℕ) → n < 16 → digits_onto (suc k) 16 false n acc ≡ digit_glyph false n ∷ acc
last k n acc one =
    let none : n / 16 ≡ 0 = omega (arith, one) in
    let same : n % 16 ≡ n = omega (arith, one) in
    rw (none, same) refl

one_digit : (n : ℕ) → n < 16 → digits 16 false n ≡ digit_glyph false n ∷ []
unfolding digits
one_digit n small = last 63 n [] small

two_digits : (n : ℕ) → 16 ≤ n → n < 256 → digits 16 false n ≡ digit_glyph false (n / 16) ∷ digit_glyph false (n % 16) ∷ []
unfolding digits
two_digits n large small = step 63 n [] large ∙ last 62 (n / 16) _ (omega (arith, small))

three_digits : (n : ℕ) → 256 ≤ n → n < 4096
    → digits 16 false n ≡ digit_glyph false (n / 256) ∷ digit_glyph false (n / 16 % 16) ∷ digit_glyph false (n % 16) ∷ []
unfolding digits
three_digits n large small =
    let first : n / 16 / 16 ≡ n / 256 = omega arith in
    step 63 n [] (omega (arith, large)) ∙ step 62 (n / 16) _ (omega (arith, large)) ∙ last 61 (n / 16 / 16) _ (omega (arith, small))
    ∙ ap (λ d. digit_glyph false d ∷ digit_glyph false (n / 16 % 16) ∷ digit_glyph false (n % 16) ∷ []) first

all_digits : (n : ℕ) → 4096 ≤ n → n < 65536
    → digits 16 false n ≡ digit_glyph false (n / 4096) ∷ digit_glyph false (n / 256 % 16) ∷ digit_glyph false (n / 16 % 16) ∷ digit_glyph false (n % 16) ∷ []
unfolding digits
all_digits n large small =
    let first : n / 16 / 16 / 16 ≡ n / 4096 = omega arith in
    let second : n / 16 / 16 % 16 ≡ n / 256 % 16 = omega arith in
    step 63 n [] (omega (arith, large)) ∙ step 62 (n / 16) _ (omega (arith, large)) ∙ step 61 (n / 16 / 16) _ (omega (arith, large))
    ∙ last 60 (n / 16 / 16 / 16) _ (omega (arith, small))
    ∙ ap (λ d. digit_glyph false d ∷ digit_glyph false (n / 16 / 16 % 16) ∷ digit_glyph false (n / 16 % 16) ∷ digit_glyph false (n % 16) ∷ []) first
    ∙ ap (λ d. digit_glyph false (n / 4096) ∷ digit_glyph false d ∷ digit_glyph false (n / 16 % 16) ∷ digit_glyph false (n % 16) ∷ []) second

-- four digits, with zeros before them
pub four_digits : (n : ℕ) → n < 65536
    → hex_digits 4 n ≡ digit_glyph false (n / 4096) ∷ digit_glyph false (n / 256 % 16) ∷ digit_glyph false (n / 16 % 16) ∷ digit_glyph false (n % 16) ∷ []
unfolding hex_digits padded_integral char_count
four_digits n small =
    ⊎_elim
    (λ (one : n < 16).
    let a : n / 4096 ≡ 0 = omega (arith, one) in
    let b : n / 256 % 16 ≡ 0 = omega (arith, one) in
    let c : n / 16 % 16 ≡ 0 = omega (arith, one) in
    let d : n % 16 ≡ n = omega (arith, one) in
    rw (one_digit n one, a, b, c, d) refl)
    (λ (more : 16 ≤ n).
    ⊎_elim
    (λ (two : n < 256).
    let a : n / 4096 ≡ 0 = omega (arith, two) in
    let b : n / 256 % 16 ≡ 0 = omega (arith, two) in
    let c : n / 16 % 16 ≡ n / 16 = omega (arith, two) in
    rw (two_digits n more two, a, b, c) refl)
    (λ (much : 256 ≤ n).
    ⊎_elim
    (λ (three : n < 4096).
    let a : n / 4096 ≡ 0 = omega (arith, three) in
    let b : n / 256 % 16 ≡ n / 256 = omega (arith, three) in
    rw (three_digits n much three, a, b) refl)
    (λ (all : 4096 ≤ n). rw (all_digits n all small) refl)
    (cases_lt n 4096))
    (cases_lt n 256))
    (cases_lt n 16)

-- the digits that are written
pub are_digits : (n a b c d : ℕ) → n < 65536 → a ≡ digit_glyph false (n / 4096) → b ≡ digit_glyph false (n / 256 % 16) → c ≡ digit_glyph false (n / 16 % 16)
    → d ≡ digit_glyph false (n % 16) → a ∷ b ∷ c ∷ d ∷ [] ≡ hex_digits 4 n
are_digits n a b c d small first second third last = rw (first, second, third, last) (sym (four_digits n small))
