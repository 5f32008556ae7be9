-- Laws of words on which the rules of the normal form stand.
use Rattle.std.proofs.Common.{◌≡◌, ℕ, zero, suc, ◌+◌, ◌-◌, ◌*◌, ◌/◌, ◌%◌, ◌^◌, ◌<◌, ◌≤◌, min, max, Bool, true, false, refl, sym, ap, ◌∙◌, arith, pos, negsuc, ◌*ℤ◌, pow-add, pow_mono}
use Rattle.std.specs.Prelude.{bit_and, bit_or, bit_xor, nat_le, nat_lt}
use Rattle.std.proofs.lemmas.Bool.Decides.{nat_tests}
use Rattle.std.proofs.lemmas.Int.{ints}
use Rattle.std.proofs.lemmas.Nat.{and_assoc, xor_comm, and_mask, mul-mod_first, mul-mod_second, shr-shr, shl-shr, mod-pow-add, and_or_self, shr_le}
use Rattle.std.proofs.lemmas.Nat.Bits.{same_from_bits, bit_at_and, bit_at_or, and_high_mask, ones_shr, ones_shl}
use Rattle.std.specs.Int.{bit_at, int_div_euclid}
use Rattle.std.specs.Int.Bits.{xor_assoc, or_add_and, xor_add_and, xor_self, xor_zero_r, or_zero_r, or_self, and_self}
use Rattle.std.proofs.Math.Nat.{mul_assoc, div-eq_of_lt, mul-mod_left, div-mul-le_self}
use Rattle.raw_tile_isa.specs.Words.{signed, modulo, word_add, word_sub, word_mul_low, word_mul_high, word_mul_high_unsigned, word_shift_left, word_shift_right, word_shift_right_signed, word_less, word_less_unsigned}

pub high_zero : (x : ℕ) → word_mul_high x 0 ≡ 0
unfolding word_mul_high
high_zero x = let e : signed x *ℤ signed 0 ≡ pos 0 = grind (arith, ints) in ap (λ z. modulo z (2 ^ 64) / 2 ^ 32) e ∙ omega arith

pub high_unsigned_small : (x w : ℕ) → x < 2 ^ 32 → w ≤ 1 → word_mul_high_unsigned x w ≡ 0
unfolding word_mul_high_unsigned
high_unsigned_small x zero h l = omega arith
high_unsigned_small x (suc zero) h l = omega (arith, h)
high_unsigned_small x (suc (suc w)) h l = absurd (omega (arith, l))

pub none_below : (x : ℕ) → word_less_unsigned x 0 ≡ 0
unfolding word_less_unsigned
none_below x = grind (arith, nat_tests)

-- one name for one thing
pub below_zero : (x : ℕ) → x < 2 ^ 32 → word_less x 0 ≡ word_shift_right x 31
unfolding word_less word_shift_right
below_zero x h = grind (arith, ints, nat_tests)

pub high_unsigned_power : (x k : ℕ) → 0 < k → k < 32 → word_mul_high_unsigned x (2 ^ k) ≡ word_shift_right x (32 - k)
unfolding word_mul_high_unsigned word_shift_right
high_unsigned_power x k p l =
    let t : 2 ^ 32 ≡ 2 ^ (k + (32 - k)) = let s : 32 ≡ k + (32 - k) = omega (arith, l) in ap (λ n. 2 ^ n) s in
    let e : (32 - k) % 32 ≡ 32 - k = omega (arith, p, l) in
    ap (λ n. x * 2 ^ k / n) t ∙ sym (shr-shr (x * 2 ^ k) k (32 - k)) ∙ ap (λ n. n / 2 ^ (32 - k)) (shl-shr x k) ∙ ap (λ n. x / 2 ^ n) (sym e)

pub mul_power : (x k : ℕ) → k < 32 → word_mul_low x (2 ^ k) ≡ word_shift_left x k
unfolding word_mul_low word_shift_left
mul_power x k l = let e : k % 32 ≡ k = omega (arith, l) in ap (λ n. x * 2 ^ n % 2 ^ 32) (sym e)

-- a word from 2 on that is 1, shifted by less than 32, is a power of two
pub power_is : (k w : ℕ) → k < 32 → 2 ≤ w → word_shift_left 1 k ≡ w → (0 < k) × (w ≡ 2 ^ k)
unfolding word_shift_left
power_is zero w l p e = absurd (omega (arith, e, p))
power_is (suc k) w l p e =
    let m : suc k % 32 ≡ suc k = omega (arith, l) in
    let step : suc k ≤ 31 = omega (arith, l) in let less : 2 ^ suc k ≤ 2 ^ 31 = pow_mono step in
    (omega arith, sym e ∙ ap (λ n. 1 * 2 ^ n % 2 ^ 32) m ∙ omega (arith, less))

pub complement : (x : ℕ) → x < 2 ^ 32 → bit_xor x (2 ^ 32 - 1) ≡ 2 ^ 32 - 1 - x
complement x h = let m : bit_and x (2 ^ 32 - 1) ≡ x = and_mask x 32 ∙ omega (arith, h) in omega (arith, m, xor_add_and x (2 ^ 32 - 1))

pub nor_zero : (x : ℕ) → x < 2 ^ 32 → 2 ^ 32 - 1 - bit_or x 0 ≡ bit_xor x (2 ^ 32 - 1)
nor_zero x h = ap (λ z. 2 ^ 32 - 1 - z) (or_zero_r x) ∙ sym (complement x h)

pub nor_self : (x : ℕ) → x < 2 ^ 32 → 2 ^ 32 - 1 - bit_or x x ≡ bit_xor x (2 ^ 32 - 1)
nor_self x h = ap (λ z. 2 ^ 32 - 1 - z) (or_self x) ∙ sym (complement x h)

-- an operation twice, with two words
pub mul_twice : (x v w : ℕ) → word_mul_low (word_mul_low x v) w ≡ word_mul_low x (word_mul_low v w)
unfolding word_mul_low
mul_twice x v w = mul-mod_first (x * v) w (2 ^ 32) ∙ ap (λ n. n % 2 ^ 32) (mul_assoc x v w) ∙ sym (mul-mod_second x (v * w) (2 ^ 32))

pub and_twice : (x v w : ℕ) → bit_and (bit_and x v) w ≡ bit_and x (bit_and v w)
and_twice x v w = and_assoc w x v

max_bits : (a b c : ℕ) → max (max a b) c ≡ max a (max b c)
max_bits a b c = omega arith

pub or_twice : (x v w : ℕ) → bit_or (bit_or x v) w ≡ bit_or x (bit_or v w)
or_twice x v w = same_from_bits (bit_or (bit_or x v) w) (bit_or x (bit_or v w)) (λ i.
    bit_at_or (bit_or x v) w i ∙ ap (λ z. max z (bit_at w i)) (bit_at_or x v i) ∙ max_bits (bit_at x i) (bit_at v i) (bit_at w i)
    ∙ sym (bit_at_or x (bit_or v w) i ∙ ap (λ z. max (bit_at x i) z) (bit_at_or v w i)))

pub left_twice : (x v w : ℕ) → v < 32 → w < 32 → v + w < 32 → word_shift_left (word_shift_left x v) w ≡ word_shift_left x (v + w)
unfolding word_shift_left
left_twice x v w p q l =
    let a : v % 32 ≡ v = omega (arith, l) in let b : w % 32 ≡ w = omega (arith, l) in let c : (v + w) % 32 ≡ v + w = omega (arith, l) in
    ap (λ n. x * 2 ^ n % 2 ^ 32 * 2 ^ (w % 32) % 2 ^ 32) a ∙ ap (λ n. x * 2 ^ v % 2 ^ 32 * 2 ^ n % 2 ^ 32) b
    ∙ mul-mod_first (x * 2 ^ v) (2 ^ w) (2 ^ 32) ∙ ap (λ n. n % 2 ^ 32) (mul_assoc x (2 ^ v) (2 ^ w) ∙ ap (λ n. x * n) (sym (pow-add 2 v w))) ∙ ap (λ n. x * 2 ^ n % 2 ^ 32) (sym c)

pub left_over : (x v w : ℕ) → v < 32 → w < 32 → 32 ≤ v + w → word_shift_left (word_shift_left x v) w ≡ 0
unfolding word_shift_left
left_over x v w p q l =
    let a : v % 32 ≡ v = omega (arith, p) in let b : w % 32 ≡ w = omega (arith, q) in
    let s : v + w ≡ v + w - 32 + 32 = omega (arith, l) in
    ap (λ n. x * 2 ^ n % 2 ^ 32 * 2 ^ (w % 32) % 2 ^ 32) a ∙ ap (λ n. x * 2 ^ v % 2 ^ 32 * 2 ^ n % 2 ^ 32) b
    ∙ mul-mod_first (x * 2 ^ v) (2 ^ w) (2 ^ 32) ∙ ap (λ n. n % 2 ^ 32) (mul_assoc x (2 ^ v) (2 ^ w) ∙ ap (λ n. x * n) (sym (pow-add 2 v w) ∙ ap (λ n. 2 ^ n) s ∙ pow-add 2 (v + w - 32) 32) ∙ sym (mul_assoc x (2 ^ (v + w - 32)) (2 ^ 32)))
    ∙ mul-mod_left (x * 2 ^ (v + w - 32)) (2 ^ 32)

pub right_twice : (x v w : ℕ) → v < 32 → w < 32 → v + w < 32 → word_shift_right (word_shift_right x v) w ≡ word_shift_right x (v + w)
unfolding word_shift_right
right_twice x v w p q l =
    let a : v % 32 ≡ v = omega (arith, l) in let b : w % 32 ≡ w = omega (arith, l) in let c : (v + w) % 32 ≡ v + w = omega (arith, l) in
    ap (λ n. x / 2 ^ n / 2 ^ (w % 32)) a ∙ ap (λ n. x / 2 ^ v / 2 ^ n) b ∙ shr-shr x v w ∙ ap (λ n. x / 2 ^ n) (sym c)

-- what is below 2^32 (2^31) is 0 after a shift to the right by so much and more
shifted_out : (x k j : ℕ) → x < 2 ^ k → k ≤ j → x / 2 ^ j ≡ 0
shifted_out x k j h l = div-eq_of_lt (let m : 2 ^ k ≤ 2 ^ j = pow_mono l in omega (arith, h, m))

pub right_over : (x v w : ℕ) → x < 2 ^ 32 → v < 32 → w < 32 → 32 ≤ v + w → word_shift_right (word_shift_right x v) w ≡ 0
unfolding word_shift_right
right_over x v w h p q l =
    let a : v % 32 ≡ v = omega (arith, p) in let b : w % 32 ≡ w = omega (arith, q) in
    ap (λ n. x / 2 ^ n / 2 ^ (w % 32)) a ∙ ap (λ n. x / 2 ^ v / 2 ^ n) b ∙ shr-shr x v w ∙ shifted_out x 32 (v + w) h l

-- a shift with the sign: of a word without it as one with zeros, of one with it as that of its complement
pub signed_low : (x k : ℕ) → x < 2 ^ 31 → k < 32 → word_shift_right_signed x k ≡ x / 2 ^ k
unfolding word_shift_right_signed
signed_low x k h l =
    let e : k % 32 ≡ k = omega (arith, l) in
    let s : signed x ≡ pos x = grind (arith, nat_tests, h) in
    ap (λ n. modulo (int_div_euclid (signed x) (pos (2 ^ n))) (2 ^ 32)) e ∙ ap (λ z. modulo (int_div_euclid z (pos (2 ^ k))) (2 ^ 32)) s
    ∙ (let b : x / 2 ^ k ≤ x = shr_le x k in omega (arith, b, h))

pub signed_high : (x k : ℕ) → 2 ^ 31 ≤ x → x < 2 ^ 32 → k < 32 → word_shift_right_signed x k ≡ 2 ^ 32 - 1 - (2 ^ 32 - 1 - x) / 2 ^ k
unfolding word_shift_right_signed
signed_high x k g h l =
    let e : k % 32 ≡ k = omega (arith, l) in
    let c : ℕ = 2 ^ 32 - 1 - x in
    let s : signed x ≡ negsuc c = grind (arith, ints, nat_tests, g, h) in
    ap (λ n. modulo (int_div_euclid (signed x) (pos (2 ^ n))) (2 ^ 32)) e ∙ ap (λ z. modulo (int_div_euclid z (pos (2 ^ k))) (2 ^ 32)) s
    ∙ negative (c / 2 ^ k) (let b : c / 2 ^ k ≤ c = shr_le c k in omega (arith, b, h))
  where
    negative : (n : ℕ) → n < 2 ^ 32 → modulo (negsuc n) (2 ^ 32) ≡ 2 ^ 32 - 1 - n
    negative n l = grind (arith, ints, l)

either_side : (x v w : ℕ) → (A : Type 0) → (x < 2 ^ 31 → A) → (2 ^ 31 ≤ x → A) → A
either_side x v w A f g = by (nat_lt x (2 ^ 31)) refl where
  by : (b : Bool) → nat_lt x (2 ^ 31) ≡ b → A
  by true e = f (grind (arith, nat_tests, e))
  by false e = g (grind (arith, nat_tests, e))

-- what is below 2^31 is shifted out by 31 already
twice_down : (c v w : ℕ) → c < 2 ^ 31 → c / 2 ^ v / 2 ^ w ≡ c / 2 ^ min (v + w) 31
twice_down c v w h = shr-shr c v w ∙ by (nat_le (v + w) 31) refl where
  by : (b : Bool) → nat_le (v + w) 31 ≡ b → c / 2 ^ (v + w) ≡ c / 2 ^ min (v + w) 31
  by true e = let m : min (v + w) 31 ≡ v + w = grind (arith, nat_tests, e) in ap (λ n. c / 2 ^ n) (sym m)
  by false e =
      let l : 31 ≤ v + w = grind (arith, nat_tests, e) in
      let m : min (v + w) 31 ≡ 31 = omega (arith, l) in
      shifted_out c 31 (v + w) h l ∙ sym (ap (λ n. c / 2 ^ n) m ∙ shifted_out c 31 31 h (omega arith))

pub signed_twice : (x v w : ℕ) → x < 2 ^ 32 → v < 32 → w < 32 → word_shift_right_signed (word_shift_right_signed x v) w ≡ word_shift_right_signed x (min (v + w) 31)
signed_twice x v w h p q = either_side x v w (word_shift_right_signed (word_shift_right_signed x v) w ≡ word_shift_right_signed x (min (v + w) 31)) low high where
  least : min (v + w) 31 < 32
  least = omega arith

  low : x < 2 ^ 31 → word_shift_right_signed (word_shift_right_signed x v) w ≡ word_shift_right_signed x (min (v + w) 31)
  low g =
      ap (λ z. word_shift_right_signed z w) (signed_low x v g p) ∙ signed_low (x / 2 ^ v) w (let b : x / 2 ^ v ≤ x = shr_le x v in omega (arith, b, g)) q
      ∙ twice_down x v w g ∙ sym (signed_low x (min (v + w) 31) g least)

  high : 2 ^ 31 ≤ x → word_shift_right_signed (word_shift_right_signed x v) w ≡ word_shift_right_signed x (min (v + w) 31)
  high g =
      let c : ℕ = 2 ^ 32 - 1 - x in
      let b : c / 2 ^ v ≤ c = shr_le c v in
      let back : 2 ^ 32 - 1 - (2 ^ 32 - 1 - c / 2 ^ v) ≡ c / 2 ^ v = omega (arith, b, g, h) in
      ap (λ z. word_shift_right_signed z w) (signed_high x v g h p) ∙ signed_high (2 ^ 32 - 1 - c / 2 ^ v) w (omega (arith, b, g, h)) (omega (arith, b)) q
      ∙ ap (λ z. 2 ^ 32 - 1 - z / 2 ^ w) back ∙ ap (λ z. 2 ^ 32 - 1 - z) (twice_down c v w (omega (arith, g))) ∙ sym (signed_high x (min (v + w) 31) g h least)

pub high_one : (x : ℕ) → x < 2 ^ 32 → word_mul_high x 1 ≡ word_shift_right_signed x 31
unfolding word_mul_high
high_one x h = either_side x 0 0 (modulo (signed x *ℤ signed 1) (2 ^ 64) / 2 ^ 32 ≡ word_shift_right_signed x 31) low high where
  low : x < 2 ^ 31 → modulo (signed x *ℤ signed 1) (2 ^ 64) / 2 ^ 32 ≡ word_shift_right_signed x 31
  low g =
      let s : signed x *ℤ signed 1 ≡ pos x = grind (arith, ints, nat_tests, g) in
      ap (λ z. modulo z (2 ^ 64) / 2 ^ 32) s ∙ omega (arith, g) ∙ sym (signed_low x 31 g (omega arith))

  negative : (c : ℕ) → c < 2 ^ 31 → modulo (negsuc c) (2 ^ 64) / 2 ^ 32 ≡ 2 ^ 32 - 1 - c / 2 ^ 31
  negative c l = let m : modulo (negsuc c) (2 ^ 64) ≡ 2 ^ 64 - 1 - c = grind (arith, ints, l) in ap (λ z. z / 2 ^ 32) m ∙ omega (arith, l)

  high : 2 ^ 31 ≤ x → modulo (signed x *ℤ signed 1) (2 ^ 64) / 2 ^ 32 ≡ word_shift_right_signed x 31
  high g =
      let c : ℕ = 2 ^ 32 - 1 - x in
      let s : signed x *ℤ signed 1 ≡ negsuc c = grind (arith, ints, nat_tests, g, h) in
      ap (λ z. modulo z (2 ^ 64) / 2 ^ 32) s ∙ negative c (omega (arith, g)) ∙ sym (signed_high x 31 g h (omega arith))

-- a shift and the shift back are a mask
pub right_of_left : (x k : ℕ) → k < 32 → word_shift_right (word_shift_left x k) k ≡ bit_and x (word_shift_right (2 ^ 32 - 1) k)
unfolding word_shift_right word_shift_left
right_of_left x k l =
    let e : k % 32 ≡ k = omega (arith, l) in
    let s : 32 ≡ 32 - k + k = omega (arith, l) in
    let y : ℕ = x % 2 ^ (32 - k) in
    let low : x * 2 ^ k % 2 ^ 32 ≡ y * 2 ^ k =
    ap (λ n. x * 2 ^ k % 2 ^ n) s ∙ mod-pow-add (x * 2 ^ k) (32 - k) k ∙ ap (λ z. z % 2 ^ (32 - k) * 2 ^ k + x * 2 ^ k % 2 ^ k) (shl-shr x k)
    ∙ ap (λ z. y * 2 ^ k + z) (mul-mod_left x (2 ^ k)) ∙ omega arith in
    ap (λ n. x * 2 ^ n % 2 ^ 32 / 2 ^ n) e ∙ ap (λ z. z / 2 ^ k) low ∙ shl-shr y k
    ∙ sym (ap (λ n. bit_and x ((2 ^ 32 - 1) / 2 ^ n)) e ∙ ap (bit_and x) (ones_shr 32 k (omega (arith, l))) ∙ and_mask x (32 - k))

pub left_of_right : (x k : ℕ) → x < 2 ^ 32 → k < 32 → word_shift_left (word_shift_right x k) k ≡ bit_and x (word_shift_left (2 ^ 32 - 1) k)
unfolding word_shift_right word_shift_left
left_of_right x k h l =
    let e : k % 32 ≡ k = omega (arith, l) in
    let b : x / 2 ^ k * 2 ^ k ≤ x = div-mul-le_self x (2 ^ k) in
    ap (λ n. x / 2 ^ n * 2 ^ n % 2 ^ 32) e ∙ omega (arith, b, h)
    ∙ sym (ap (λ n. bit_and x ((2 ^ 32 - 1) * 2 ^ n % 2 ^ 32)) e ∙ ap (bit_and x) (ones_shl 32 k (omega (arith, l))) ∙ and_high_mask 32 k (omega (arith, l)) x h)

-- what is beside another operation
min_bits : (a b : ℕ) → max (min a b) b ≡ b
min_bits a b = omega arith

pub or_of_and : (x t : ℕ) → bit_or (bit_and x t) t ≡ t
or_of_and x t = same_from_bits (bit_or (bit_and x t) t) t (λ i. bit_at_or (bit_and x t) t i ∙ ap (λ z. max z (bit_at t i)) (bit_at_and x t i) ∙ min_bits (bit_at x i) (bit_at t i))

pub and_of_or : (x t : ℕ) → bit_and (bit_or x t) t ≡ t
and_of_or x t = and_or_self t x

pub and_of_and : (x t : ℕ) → bit_and (bit_and x t) t ≡ bit_and x t
and_of_and x t = and_twice x t t ∙ ap (bit_and x) (and_self t)

pub or_of_or : (x t : ℕ) → bit_or (bit_or x t) t ≡ bit_or x t
or_of_or x t = or_twice x t t ∙ ap (bit_or x) (or_self t)

pub xor_back : (x y : ℕ) → bit_xor (bit_xor x y) y ≡ x
xor_back x y = xor_assoc x y y ∙ ap (bit_xor x) (xor_self y) ∙ xor_zero_r x

pub sub_of_add : (x y : ℕ) → x < 2 ^ 32 → y < 2 ^ 32 → word_sub (word_add x y) y ≡ x
unfolding word_sub
sub_of_add x y h g = grind (arith, ints)

pub add_of_sub : (x y : ℕ) → x < 2 ^ 32 → y < 2 ^ 32 → word_add (word_sub x y) y ≡ x
unfolding word_sub
add_of_sub x y h g = grind (arith, ints)

pub and_complement : (x : ℕ) → x < 2 ^ 32 → bit_and (bit_xor x (2 ^ 32 - 1)) x ≡ 0
and_complement x h =
    let a : bit_xor (bit_xor x (2 ^ 32 - 1)) x ≡ 2 ^ 32 - 1 = ap (λ z. bit_xor z x) (xor_comm x (2 ^ 32 - 1)) ∙ xor_back (2 ^ 32 - 1) x in
    let b = xor_add_and (bit_xor x (2 ^ 32 - 1)) x in let c = complement x h in omega (arith, a, b, c, h)

pub or_complement : (x : ℕ) → x < 2 ^ 32 → bit_or (bit_xor x (2 ^ 32 - 1)) x ≡ 2 ^ 32 - 1
or_complement x h = let a = or_add_and (bit_xor x (2 ^ 32 - 1)) x in let b = and_complement x h in let c = complement x h in omega (arith, a, b, c, h)

-- a shift looks at the low five bits alone
pub low_five : (u w : ℕ) → w % 32 ≡ 31 → bit_and u w % 32 ≡ u % 32
low_five u w e =
    sym (and_mask (bit_and u w) 5) ∙ and_twice u w 31 ∙ ap (bit_and u) (and_mask w 5 ∙ e) ∙ and_mask u 5
