-- Words that are read as signed.
use Rattle.std.proofs.Common.{◌≡◌, ℕ, ◌/◌, ◌%◌, ◌^◌, ◌<◌, ◌≤◌, ℤ, pos, negsuc, ◌*ℤ◌, FitsSigned, to_z, of_z, w32, w64, refl, ap, ◌∙◌, arith}
use Rattle.std.specs.Int.{int_shr, int_div_euclid}
use Rattle.std.specs.Prelude.{unsigned_abs}
use Rattle.std.proofs.lemmas.Int.{ints, to_z-of_z, fits_signed_mul}
use Rattle.std.proofs.lemmas.Bool.Decides.{nat_tests}
use Rattle.raw_tile_isa.specs.Words.{signed, modulo, word_mul_high, word_shift_right_signed}

-- the cast of a word to the signed type is what it stands for as signed
signed_is : (word : ℕ) → word < 4294967296 → to_z w32 word ≡ signed word
signed_is word h = grind (arith, ints, nat_tests)

-- what a word stands for as signed fits the signed type
signed_fits : (word : ℕ) → word < 4294967296 → FitsSigned w32 (signed word)
signed_fits word h = grind (arith, ints, nat_tests)

-- the bits of a number of the signed type are the number modulo 2^64, and likewise 2^32
modulo_64 : (z : ℤ) → FitsSigned w64 z → of_z w64 z ≡ modulo z 18446744073709551616
modulo_64 (pos n) h = let fits = h.sfits in omega arith
modulo_64 (negsuc n) h = let fits = h.sfits in omega arith

modulo_32 : (z : ℤ) → FitsSigned w32 z → of_z w32 z ≡ modulo z 4294967296
modulo_32 (pos n) h = let fits = h.sfits in omega arith
modulo_32 (negsuc n) h = let fits = h.sfits in omega arith

cast_back : (word : ℕ) (p : ℤ) → word < 4294967296 → p ≡ to_z w32 word → to_z w32 (of_z w32 p) ≡ signed word
cast_back word p h e =
    let s : p ≡ signed word = e ∙ signed_is word h in
    rw s (to_z-of_z w32 (signed word) (signed_fits word h))

abs_small : (z : ℤ) → FitsSigned w32 z → unsigned_abs z ≤ 2147483648
abs_small (pos n) h = let fits = h.sfits in omega arith
abs_small (negsuc n) h = let fits = h.sfits in omega arith

-- a number of 32 bits fits 64
widened : (z : ℤ) → FitsSigned w32 z → FitsSigned w64 z
widened z h = let fits = h.sfits in record { sfits = omega arith }

-- the product of two numbers of 32 bits fits 64
product_fits : (x y : ℤ) → FitsSigned w32 x → FitsSigned w32 y → FitsSigned w64 (x *ℤ y)
product_fits x y h g = fits_signed_mul w64 x y 2147483648 2147483648 (abs_small x h) (abs_small y g) (omega arith)

-- the high half of the bits of the product
pub mul_high_is : (a b r : ℕ) (p x q y : ℤ) → a < 4294967296 → b < 4294967296
    → p ≡ to_z w32 a → x ≡ to_z w32 (of_z w32 p) → q ≡ to_z w32 b → y ≡ to_z w32 (of_z w32 q)
    → r ≡ of_z w64 (to_z w64 (of_z w64 (to_z w64 (of_z w64 x) *ℤ to_z w64 (of_z w64 y))))
    → r / 4294967296 ≡ word_mul_high a b
unfolding word_mul_high
mul_high_is a b r p x q y h g e1 e2 e3 e4 e5 =
    let sx : x ≡ signed a = e2 ∙ cast_back a p h e1 in
    let sy : y ≡ signed b = e4 ∙ cast_back b q g e3 in
    let fx = signed_fits a h in
    let fy = signed_fits b g in
    let bx : to_z w64 (of_z w64 x) ≡ signed a = rw sx (to_z-of_z w64 (signed a) (widened (signed a) fx)) in
    let by : to_z w64 (of_z w64 y) ≡ signed b = rw sy (to_z-of_z w64 (signed b) (widened (signed b) fy)) in
    let fits = product_fits (signed a) (signed b) fx fy in
    let bits : r ≡ modulo (signed a *ℤ signed b) 18446744073709551616 =
    e5 ∙ rw (bx, by, to_z-of_z w64 (signed a *ℤ signed b) fits) (modulo_64 (signed a *ℤ signed b) fits) in
    ap (λ n. n / 4294967296) bits

-- to round the quotient by a power of two down is to shift
shr_is : (z : ℤ) (k : ℕ) → int_shr z k ≡ int_div_euclid z (pos (2 ^ k))
shr_is (pos n) k = refl
shr_is (negsuc n) k = refl

-- the bits of the shifted number
pub shift_right_signed_is : (a b r : ℕ) (p x : ℤ) → a < 4294967296 → FitsSigned w32 x
    → p ≡ to_z w32 a → x ≡ int_shr (to_z w32 (of_z w32 p)) (b % 32) → r ≡ of_z w32 (to_z w32 (of_z w32 x))
    → r ≡ word_shift_right_signed a b
unfolding word_shift_right_signed
shift_right_signed_is a b r p x h fits e1 e2 e3 =
    let s : x ≡ int_div_euclid (signed a) (pos (2 ^ (b % 32))) =
    e2 ∙ rw (cast_back a p h e1) (shr_is (signed a) (b % 32)) in
    e3 ∙ rw (to_z-of_z w32 x fits) (modulo_32 x fits) ∙ ap (λ z. modulo z 4294967296) s
