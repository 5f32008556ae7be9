use Rattle.std.proofs.Common.{◌≡◌, ℕ, Bool, true, zero, suc, ◌+◌, ◌-◌, ◌/◌, ◌%◌, ◌<◌, ◌≤◌, ◌^◌, false, cond, List, [], ◌∷◌, ◌++◌, length, drop, set, replicate, refl, sym, eqb, ap, ◌∙◌, ⊎_elim, arith, append-nil}
use Rattle.std.specs.Fmt.{digits, digits_onto, digit_glyph, padded_integral, char_count}
use Rattle.std.proofs.lemmas.Bool.{cases_lt, eq-eqb, ne_eqb}
use Rattle.std.proofs.lemmas.Fmt.{digits_is_IsNumeral}
use Rattle.std.proofs.lemmas.Grind.{drop-set_at}
use Rattle.std.proofs.lemmas.List.{length-set}
use Rattle.raw_text.specs.Number.{hex_digits}
use Rattle.raw_explore.proofs.line.write_hex.Goals as goal

-- the digit that is the last one, and one that others follow
last_digit : (i n : ℕ) (acc : List ℕ) → n / 16 ≡ 0 → digits_onto (suc i) 16 false n acc ≡ digit_glyph false (n % 16) ∷ acc
last_digit i n acc last =
    ap (λ b. cond b (digit_glyph false (n % 16) ∷ acc) (digits_onto i 16 false (n / 16) (digit_glyph false (n % 16) ∷ acc))) (eq-eqb (n / 16) 0 last)

next_digit : (i n : ℕ) (acc : List ℕ) → 0 < n / 16 → digits_onto (suc i) 16 false n acc ≡ digits_onto i 16 false (n / 16) (digit_glyph false (n % 16) ∷ acc)
next_digit i n acc more =
    ap (λ b. cond b (digit_glyph false (n % 16) ∷ acc) (digits_onto i 16 false (n / 16) (digit_glyph false (n % 16) ∷ acc)))
    (ne_eqb (n / 16) 0 (λ e. absurd (omega (arith, e, more))))

-- so many digits are enough
enough : (j k n : ℕ) (acc : List ℕ) → n < 16 ^ j → 0 < j → j ≤ k → digits_onto k 16 false n acc ≡ digits_onto j 16 false n acc
enough zero k n acc small some le = absurd (omega arith)
enough (suc j) zero n acc small some le = absurd (omega arith)
enough (suc j) (suc k) n acc small some le =
    ⊎_elim {C = digits_onto (suc k) 16 false n acc ≡ digits_onto (suc j) 16 false n acc}
    (λ (more : 0 < n / 16).
    let less : n / 16 < 16 ^ j = omega arith in
    let wide : 0 < j = ⊎_elim {C = 0 < j} (λ (w : 0 < j). w) (λ (w : j ≤ 0). let is : j ≡ 0 = omega arith in let one : 16 ^ j ≡ 1 = rw is refl in absurd (omega arith)) (cases_lt 0 j) in
    next_digit k n acc more ∙ enough j k (n / 16) (digit_glyph false (n % 16) ∷ acc) less wide (omega arith) ∙ sym (next_digit j n acc more))
    (λ (last : n / 16 ≤ 0).
    let is : n / 16 ≡ 0 = omega arith in last_digit k n acc is ∙ sym (last_digit j n acc is))
    (cases_lt 0 (n / 16))

all_digits : (n : ℕ) → n < 2 ^ 32 → digits 16 false n ≡ digits_onto 8 16 false n []
unfolding digits
all_digits n small = enough 8 64 n [] (omega arith) (omega arith) (omega arith)

shape : (width n : ℕ) → hex_digits width n ≡ replicate (width - length (digits 16 false n)) 48 ++ digits 16 false n
unfolding hex_digits padded_integral char_count
shape width n =
    let ds = digits 16 false n in
    let lack : width - length ds - 0 - 0 ≡ width - length ds = omega arith in
    ap (λ k. replicate k 48 ++ (ds ++ [])) lack ∙ ap (λ more. replicate (width - length ds) 48 ++ more) (append-nil ds)

hex_is : (n : ℕ) → n < 2 ^ 32 → hex_digits 1 n ≡ digits_onto 8 16 false n []
hex_is n small =
    let ds = digits 16 false n in
    let d = digits_is_IsNumeral 16 false (omega arith) (omega arith) n (omega arith) in
    let none : 1 - length ds ≡ 0 = omega (arith, d.0.0) in
    shape 1 n ∙ ap (λ k. replicate k 48 ++ ds) none ∙ all_digits n small

-- a digit put in front of those that are there
put : (text : List ℕ) (start n byte : ℕ) → 0 < start → start ≤ length text → byte ≡ digit_glyph false (n % 16)
    → drop (start - 1) (set text (start - 1) byte) ≡ digit_glyph false (n % 16) ∷ drop start text
put text start n byte some within is =
    let next : start - 1 + 1 ≡ start = omega arith in
    drop-set_at text (start - 1) (start - 1) byte refl (omega arith)
    ∙ ap (λ b. b ∷ drop (start - 1 + 1) text) is
    ∙ ap (λ k. digit_glyph false (n % 16) ∷ drop k text) next

last_onto : (start n : ℕ) (acc : List ℕ) → 0 < start → n / 16 ≡ 0 → digits_onto start 16 false n acc ≡ digit_glyph false (n % 16) ∷ acc
last_onto start n acc some last =
    let is : start ≡ suc (start - 1) = omega arith in
    ap (λ k. digits_onto k 16 false n acc) is ∙ last_digit (start - 1) n acc last

next_onto : (start n : ℕ) (acc : List ℕ) → 0 < start → 0 < n / 16
    → digits_onto start 16 false n acc ≡ digits_onto (start - 1) 16 false (n / 16) (digit_glyph false (n % 16) ∷ acc)
next_onto start n acc some more =
    let is : start ≡ suc (start - 1) = omega arith in
    ap (λ k. digits_onto k 16 false n acc) is ∙ next_digit (start - 1) n acc more

none_left : (start n : ℕ) (acc : List ℕ) → start ≡ 0 → digits_onto start 16 false n acc ≡ acc
none_left start n acc is = ap (λ k. digits_onto k 16 false n acc) is

-- digits stand before what stood there
before : (k n : ℕ) (acc more : List ℕ) → digits_onto k 16 false n (acc ++ more) ≡ digits_onto k 16 false n acc ++ more
before zero n acc more = refl
before (suc k) n acc more = by_test (eqb (n / 16) 0) (before k (n / 16) (digit_glyph false (n % 16) ∷ acc) more)
  where
    by_test : (b : Bool)
        → digits_onto k 16 false (n / 16) (digit_glyph false (n % 16) ∷ (acc ++ more))
        ≡ digits_onto k 16 false (n / 16) (digit_glyph false (n % 16) ∷ acc) ++ more
        → cond b (digit_glyph false (n % 16) ∷ (acc ++ more)) (digits_onto k 16 false (n / 16) (digit_glyph false (n % 16) ∷ (acc ++ more)))
        ≡ cond b (digit_glyph false (n % 16) ∷ acc) (digits_onto k 16 false (n / 16) (digit_glyph false (n % 16) ∷ acc)) ++ more
    by_test true one_less = refl
    by_test false one_less = one_less

hex_before : (n : ℕ) (more : List ℕ) → n < 2 ^ 32 → digits_onto 8 16 false n more ≡ hex_digits 1 n ++ more
hex_before n more small = before 8 n [] more ∙ ap (λ xs. xs ++ more) (sym (hex_is n small))

pub digits-preserved : goal.digits-preserved
digits-preserved c =
    let l = c.digits in
    let first = c.args.end - 8 in
    let some : 0 < l.start = omega (arith, c.digits-test.true) in
    let more : 0 < l.start - first = omega (arith, c.digits-test.true) in
    let within : l.start ≤ length l.bytes = omega (arith, l.invariant.2, l.invariant.3, c.requires.within) in
    let less : l.start - 1 - first ≡ l.start - first - 1 = omega (arith, c.digits-test.true) in (
      omega (arith, c.requires.room),
      omega (arith, c.digits-test.true),
      omega (arith, l.invariant.2),
      length-set l.bytes (l.start - 1) c.hex_digit.result ∙ l.invariant.3,
      ap (λ k. digits_onto k 16 false (l.rest / 16) (drop (l.start - 1) (set l.bytes (l.start - 1) c.hex_digit.result))) less
          ∙ ap (λ acc. digits_onto (l.start - first - 1) 16 false (l.rest / 16) acc) (put l.bytes l.start l.rest c.hex_digit.result some within c.hex_digit.ensures)
          ∙ sym (next_onto (l.start - first) l.rest (drop l.start l.bytes) more (omega (arith, c.if-rest-eq0.false)))
          ∙ l.invariant.4,
    )

pub returns-then-rest-eq0-clause-written : goal.returns-then-rest-eq0-clause-written
returns-then-rest-eq0-clause-written c =
    let l = c.digits in
    let first = c.args.end - 8 in
    let some : 0 < l.start = omega (arith, c.digits-test.true) in
    let more : 0 < l.start - first = omega (arith, c.digits-test.true) in
    let within : l.start ≤ length l.bytes = omega (arith, l.invariant.2, l.invariant.3, c.requires.within) in
    put l.bytes l.start l.rest c.hex_digit.result some within c.hex_digit.ensures
    ∙ sym (last_onto (l.start - first) l.rest (drop l.start l.bytes) more c.if-rest-eq0.true)
    ∙ l.invariant.4
    ∙ hex_before c.args.word (drop c.args.end c.args.bytes.now) (omega (arith, c.ranges.word.fits))

pub returns-after-digits-clause-written : goal.returns-after-digits-clause-written
returns-after-digits-clause-written c =
    let l = c.digits in
    let first = c.args.end - 8 in
    sym (none_left (l.start - first) l.rest (drop l.start l.bytes) (omega (arith, c.digits-test.false)))
    ∙ l.invariant.4
    ∙ hex_before c.args.word (drop c.args.end c.args.bytes.now) (omega (arith, c.ranges.word.fits))
