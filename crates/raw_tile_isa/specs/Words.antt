-- The arithmetic of words: whole numbers modulo 2^32, read without a sign or with one.
use Rattle.std.specs.Prelude.{ℕ, ◌+◌, ◌-◌, ◌*◌, ◌/◌, ◌%◌, ◌^◌, ◌<◌, nat_lt, if◌then◌else◌, ℤ, pos, ◌-ℤ◌, ◌*ℤ◌, int_lt, unsigned_abs, List, count_by, sum_by}
use Rattle.std.specs.Int.{int_div_euclid, int_rem_euclid}
use Rattle.std.specs.List.{range_with_len}

-- the number that a word stands for as signed: the word, less 2^32 where its highest bit is 1
abbrev pub signed : ℕ → ℤ
signed word = if nat_lt word (2 ^ 31) then pos word else pos word -ℤ pos (2 ^ 32)

-- a whole number modulo m: what is left of it, from 0 to m - 1
abbrev pub modulo : ℤ → ℕ → ℕ
modulo z m = unsigned_abs (int_rem_euclid z (pos m))

-- the sum of two words
abbrev pub word_add : ℕ → ℕ → ℕ
word_add a b = (a + b) % 2 ^ 32

-- the difference of two words
unfoldable pub word_sub : ℕ → ℕ → ℕ
word_sub a b = modulo (pos a -ℤ pos b) (2 ^ 32)

-- the low 32 bits of the product
unfoldable pub word_mul_low : ℕ → ℕ → ℕ
word_mul_low a b = a * b % 2 ^ 32

-- the high 32 bits of the 64-bit product of two words that are read as signed
unfoldable pub word_mul_high : ℕ → ℕ → ℕ
word_mul_high a b = modulo (signed a *ℤ signed b) (2 ^ 64) / 2 ^ 32

-- the high 32 bits of the 64-bit product of two words
unfoldable pub word_mul_high_unsigned : ℕ → ℕ → ℕ
word_mul_high_unsigned a b = a * b / 2 ^ 32

-- a word shifted left by an amount modulo 32: times a power of two
unfoldable pub word_shift_left : ℕ → ℕ → ℕ
word_shift_left a b = a * 2 ^ (b % 32) % 2 ^ 32

-- a word shifted right by an amount modulo 32, zeros in: divided by a power of two, rounded down
unfoldable pub word_shift_right : ℕ → ℕ → ℕ
word_shift_right a b = a / 2 ^ (b % 32)

-- a word shifted right by an amount modulo 32, its sign in: as signed, divided by a power of two, rounded down
unfoldable pub word_shift_right_signed : ℕ → ℕ → ℕ
word_shift_right_signed a b = modulo (int_div_euclid (signed a) (pos (2 ^ (b % 32)))) (2 ^ 32)

-- 1 where a word is less than another, both read as signed, else 0
unfoldable pub word_less : ℕ → ℕ → ℕ
word_less a b = if int_lt (signed a) (signed b) then 1 else 0

-- 1 where a word is less than another, else 0
unfoldable pub word_less_unsigned : ℕ → ℕ → ℕ
word_less_unsigned a b = if nat_lt a b then 1 else 0

-- the places of a word's bits, 0 to 31
unfoldable pub places : List ℕ
places = range_with_len 0 32

-- how many zero bits lead in a word: how many of the powers 2^0 to 2^31 are above it
unfoldable pub word_leading_zeros : ℕ → ℕ
word_leading_zeros a = count_by (λ place. nat_lt a (2 ^ place)) places

-- how many bits of a word are 1: the sum of its bits
unfoldable pub word_ones : ℕ → ℕ
word_ones a = sum_by (λ place. a / 2 ^ place % 2) places

-- the word of a half word that is read as signed
abbrev pub sign_extended : ℕ → ℕ
sign_extended half = if nat_lt half (2 ^ 15) then half else half + (2 ^ 32 - 2 ^ 16)

-- the word of a byte that is read as signed
abbrev pub sign_extended_byte : ℕ → ℕ
sign_extended_byte byte = if nat_lt byte (2 ^ 7) then byte else byte + (2 ^ 32 - 2 ^ 8)

-- what the operations make of two words are words
pub record GiveWords (a b : ℕ) : Type 0 where
  pub add : word_add a b < 2 ^ 32
  pub sub : word_sub a b < 2 ^ 32
  pub mul_low : word_mul_low a b < 2 ^ 32
  pub mul_high : word_mul_high a b < 2 ^ 32
  pub mul_high_unsigned : word_mul_high_unsigned a b < 2 ^ 32
  pub shift_left : word_shift_left a b < 2 ^ 32
  pub shift_right : word_shift_right a b < 2 ^ 32
  pub shift_right_signed : word_shift_right_signed a b < 2 ^ 32
  pub less : word_less a b < 2 ^ 32
  pub less_unsigned : word_less_unsigned a b < 2 ^ 32
  pub leading_zeros : word_leading_zeros a < 2 ^ 32
  pub ones : word_ones a < 2 ^ 32

-- what the operations make of any two words are words
abbrev pub EachGivesWords : Type 0
EachGivesWords = (a b : ℕ) → a < 2 ^ 32 → b < 2 ^ 32 → GiveWords a b

-- what half words and bytes are extended to are words
pub record ExtendToWords : Type 0 where
  pub half : (half : ℕ) → half < 2 ^ 16 → sign_extended half < 2 ^ 32
  pub byte : (byte : ℕ) → byte < 2 ^ 8 → sign_extended_byte byte < 2 ^ 32
