-- What the operations make of words are words.
use Rattle.std.proofs.Common.{◌+◌, ℕ, ◌*◌, ◌%◌, ◌^◌, ◌<◌, Bool, true, false, cond, nat_lt, ℤ, pos, negsuc, subst, arith}
use Rattle.std.specs.Prelude.{int_lt, ◌*ℤ◌}
use Rattle.std.specs.Int.{int_div_euclid}
use Rattle.std.proofs.lemmas.Nat.{shr_le, mul-lt, leading_le, ones-le, div_below}
use Rattle.raw_tile_isa.specs.Words.{signed, modulo, word_sub, word_mul_low, word_mul_high, word_mul_high_unsigned, word_shift_left, word_shift_right, word_shift_right_signed, word_less, word_less_unsigned, GiveWords, ExtendToWords}
use Rattle.raw_tile_isa.proofs.Bits.{leading_zeros_is, ones_is}

-- a number modulo m is below m
modulo_below : (z : ℤ) (m : ℕ) → 0 < m → modulo z m < m
modulo_below (pos n) m some = omega arith
modulo_below (negsuc n) m some = omega arith

-- 1 or 0 is a word
flag_below : (b : Bool) → cond b 1 0 < 4294967296
flag_below true = omega arith
flag_below false = omega arith

mul_high_below : (a b : ℕ) → word_mul_high a b < 4294967296
unfolding word_mul_high
mul_high_below a b =
    let product = signed a *ℤ signed b in
    div_below (modulo product 18446744073709551616) 4294967296 4294967296 (omega arith)
    (modulo_below product 18446744073709551616 (omega arith))

shift_right_signed_below : (a b : ℕ) → word_shift_right_signed a b < 4294967296
unfolding word_shift_right_signed
shift_right_signed_below a b =
    modulo_below (int_div_euclid (signed a) (pos (2 ^ (b % 32)))) 4294967296 (omega arith)

small_extended : (b : Bool) (n m : ℕ) → n < 4294967296 → m < 4294967296 → cond b n m < 4294967296
small_extended true n m h g = h
small_extended false n m h g = g

pub extend : ExtendToWords
extend = record {
  half = λ half h. small_extended (nat_lt half 32768) half (half + 4294901760) (omega arith) (omega arith);
  byte = λ byte h. small_extended (nat_lt byte 128) byte (byte + 4294967040) (omega arith) (omega arith);
}

pub give_words : (a b : ℕ) → a < 4294967296 → b < 4294967296 → GiveWords a b
unfolding word_sub word_mul_low word_mul_high_unsigned word_shift_left word_shift_right word_less word_less_unsigned
give_words a b h g = record {
  add = omega arith;
  sub = modulo_below _ _ (omega arith);
  mul_low = omega arith;
  mul_high = mul_high_below a b;
  mul_high_unsigned = div_below (a * b) 4294967296 4294967296 (omega arith) (mul-lt a b 4294967296 4294967296 h g);
  shift_left = omega arith;
  shift_right = let l = shr_le a (b % 32) in omega arith;
  shift_right_signed = shift_right_signed_below a b;
  less = flag_below (int_lt (signed a) (signed b));
  less_unsigned = flag_below (nat_lt a b);
  leading_zeros = subst (λ n. n < 4294967296) (leading_zeros_is a h) (let l = leading_le 32 a in omega arith);
  ones = subst (λ n. n < 4294967296) (ones_is a h) (let l = ones-le 32 a h in omega arith);
}
