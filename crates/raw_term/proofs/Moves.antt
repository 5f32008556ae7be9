-- Words that are moved, bit by bit; and operations that are exclusive ors of moved words.
use Rattle.std.proofs.Common.{◌≡◌, ℕ, zero, suc, ◌+◌, ◌-◌, ◌*◌, ◌/◌, ◌%◌, ◌^◌, ◌<◌, ◌≤◌, min, max, Bool, true, false, cond, refl, sym, ap, ◌∙◌, arith, pow-add, pos}
use Rattle.std.specs.Prelude.{bit_and, bit_or, bit_xor, nat_le, nat_lt}
use Rattle.std.specs.Int.{bit_at, int_div_euclid}
use Rattle.std.specs.Int.Bits.{xor_assoc, xor_add_and, xor_self, xor_zero_r, xor_zero_l, and_zero_r, and_lt}
use Rattle.std.proofs.lemmas.Bool.Decides.{nat_tests}
use Rattle.std.proofs.lemmas.Int.{ints}
use Rattle.std.proofs.lemmas.Nat.{xor_comm, xor_shr, and_shr, xor_lt, or_lt, and_mask, shr-shr, shr_le, pow_pos, shl-shr, and_comm}
use Rattle.std.proofs.lemmas.Nat.Bits.{same_from_bits, bit_at-zero, bit_at-lt, bit_at_and, bit_at_or, bit_at_xor, bit_at_above, bit_at_cat_low, bit_at_cat_high, bit_at_ones, and_pow, ones_shr}
use Rattle.raw_tile_isa.specs.Words.{signed, modulo, word_add, word_sub, word_shift_left, word_shift_right, word_shift_right_signed}
use Rattle.raw_term.specs.Exclusives.{moved, others}
use Rattle.raw_term.proofs.RuleLaws.{complement, left_over, signed_low, signed_high}

-- bits of shifted numbers
plus_none : (x : ℕ) → x + 0 ≡ x
plus_none x = omega arith

up_low : (x k i : ℕ) → i < k → bit_at (x * 2 ^ k) i ≡ 0
up_low x k i l = ap (λ z. bit_at z i) (sym (plus_none (x * 2 ^ k))) ∙ bit_at_cat_low x k 0 i l ∙ bit_at-zero i

up_high : (x k t i : ℕ) → i ≡ k + t → bit_at (x * 2 ^ k) i ≡ bit_at x t
up_high x k t i e =
    ap (λ z. bit_at z i) (sym (plus_none (x * 2 ^ k))) ∙ bit_at_cat_high x k 0 i (pow_pos k) (omega (arith, e)) ∙ (let q : i - k ≡ t = omega (arith, e) in ap (λ j. bit_at x j) q)

cut : (x i : ℕ) → i < 32 → bit_at (x % 2 ^ 32) i ≡ bit_at x i
cut x i l =
    let e : x / 2 ^ 32 * 2 ^ 32 + x % 2 ^ 32 ≡ x = omega arith in
    sym (bit_at_cat_low (x / 2 ^ 32) 32 (x % 2 ^ 32) i l) ∙ ap (λ z. bit_at z i) e

down : (x k i : ℕ) → bit_at (x / 2 ^ k) i ≡ bit_at x (k + i)
down x k i = ap (λ z. z % 2) (shr-shr x k i)

-- bits of two numbers joined, by their values
and_bits : (a b u v i : ℕ) → bit_at a i ≡ u → bit_at b i ≡ v → bit_at (bit_and a b) i ≡ min u v
and_bits a b u v i p q = bit_at_and a b i ∙ ap (λ z. min z (bit_at b i)) p ∙ ap (λ z. min u z) q

xor_bits : (a b u v i : ℕ) → bit_at a i ≡ u → bit_at b i ≡ v → bit_at (bit_xor a b) i ≡ (u + v) % 2
xor_bits a b u v i p q = bit_at_xor a b i ∙ ap (λ z. (z + bit_at b i) % 2) p ∙ ap (λ z. (u + z) % 2) q

-- what is below, or not
pub split : (a b : ℕ) (A : Type 0) → (a < b → A) → (b ≤ a → A) → A
split a b A f g = by (nat_lt a b) refl where
  by : (c : Bool) → nat_lt a b ≡ c → A
  by true e = f (grind (arith, nat_tests, e))
  by false e = g (grind (arith, nat_tests, e))

-- words that are shifted
pub left_word : (x k : ℕ) → word_shift_left x k < 2 ^ 32
unfolding word_shift_left
left_word x k = omega arith

pub right_word : (x k : ℕ) → x < 2 ^ 32 → word_shift_right x k < 2 ^ 32
unfolding word_shift_right
right_word x k h = let b : x / 2 ^ (k % 32) ≤ x = shr_le x (k % 32) in omega (arith, b, h)

left_low : (x k i : ℕ) → k < 32 → i < k → bit_at (word_shift_left x k) i ≡ 0
unfolding word_shift_left
left_low x k i l h = let e : k % 32 ≡ k = omega (arith, l) in ap (λ n. bit_at (x * 2 ^ n % 2 ^ 32) i) e ∙ cut (x * 2 ^ k) i (omega (arith, l, h)) ∙ up_low x k i h

left_high : (x k t i : ℕ) → k < 32 → i < 32 → i ≡ k + t → bit_at (word_shift_left x k) i ≡ bit_at x t
unfolding word_shift_left
left_high x k t i l h q = let e : k % 32 ≡ k = omega (arith, l) in ap (λ n. bit_at (x * 2 ^ n % 2 ^ 32) i) e ∙ cut (x * 2 ^ k) i h ∙ up_high x k t i q

right_bit : (x k i : ℕ) → k < 32 → bit_at (word_shift_right x k) i ≡ bit_at x (k + i)
unfolding word_shift_right
right_bit x k i l = let e : k % 32 ≡ k = omega (arith, l) in ap (λ n. bit_at (x / 2 ^ n) i) e ∙ down x k i

-- words that are moved
pub moved_word : (p x : ℕ) → x < 2 ^ 32 → moved p x < 2 ^ 32
moved_word p x h = by (nat_le 31 p) where
  by : (c : Bool) → cond c (word_shift_left x (p - 31)) (word_shift_right x (31 - p)) < 2 ^ 32
  by true = left_word x (p - 31)
  by false = right_word x (31 - p) h

moved_low : (p x i : ℕ) → p < 63 → i + 31 < p → bit_at (moved p x) i ≡ 0
moved_low p x i l h = by (nat_le 31 p) refl where
  by : (c : Bool) → nat_le 31 p ≡ c → bit_at (cond c (word_shift_left x (p - 31)) (word_shift_right x (31 - p))) i ≡ 0
  by true e = left_low x (p - 31) i (omega (arith, l)) (omega (arith, h))
  by false e = let g : p < 31 = grind (arith, nat_tests, e) in absurd (omega (arith, g, h))

moved_high : (p x i t : ℕ) → p < 63 → i < 32 → i + 31 ≡ p + t → bit_at (moved p x) i ≡ bit_at x t
moved_high p x i t l h q = by (nat_le 31 p) refl where
  by : (c : Bool) → nat_le 31 p ≡ c → bit_at (cond c (word_shift_left x (p - 31)) (word_shift_right x (31 - p))) i ≡ bit_at x t
  by true e = let g : 31 ≤ p = grind (arith, nat_tests, e) in left_high x (p - 31) t i (omega (arith, l)) h (omega (arith, g, q))
  by false e =
      let g : p < 31 = grind (arith, nat_tests, e) in
      split 0 p (bit_at (word_shift_right x (31 - p)) i ≡ bit_at x t)
      (λ o. right_bit x (31 - p) i (omega (arith, o)) ∙ (let s : 31 - p + i ≡ t = omega (arith, g, q) in ap (λ j. bit_at x j) s))
      (λ o. right_bit x (31 - p) i (omega arith) ∙ (let s : 31 - p + i ≡ t = omega (arith, g, q) in ap (λ j. bit_at x j) s))

-- the bits of a moved word: none outside it, none that came in, or one of the word
pub places : (p i : ℕ) (A : Type 0) → (32 ≤ i → A) → (i < 32 → i + 31 < p → A) → ((t : ℕ) → i < 32 → i + 31 ≡ p + t → A) → A
places p i A above low high = split i 32 A (λ h. split (i + 31) p A (λ l. low h l) (λ l. high (i + 31 - p) h (omega (arith, l)))) above

outside : (p x i : ℕ) → x < 2 ^ 32 → 32 ≤ i → bit_at (moved p x) i ≡ 0
outside p x i h l = bit_at_above (moved p x) 32 i (moved_word p x h) l

pub moved_xor : (p x y : ℕ) → p < 63 → x < 2 ^ 32 → y < 2 ^ 32 → moved p (bit_xor x y) ≡ bit_xor (moved p x) (moved p y)
moved_xor p x y l h g = same_from_bits (moved p (bit_xor x y)) (bit_xor (moved p x) (moved p y)) (λ i.
    places p i (bit_at (moved p (bit_xor x y)) i ≡ bit_at (bit_xor (moved p x) (moved p y)) i)
    (λ a. outside p (bit_xor x y) i (xor_lt 32 x y h g) a ∙ sym (xor_bits (moved p x) (moved p y) 0 0 i (outside p x i h a) (outside p y i g a)))
    (λ o a. moved_low p (bit_xor x y) i l a ∙ sym (xor_bits (moved p x) (moved p y) 0 0 i (moved_low p x i l a) (moved_low p y i l a)))
    (λ t o q.
    moved_high p (bit_xor x y) i t l o q ∙ bit_at_xor x y t
    ∙ sym (xor_bits (moved p x) (moved p y) (bit_at x t) (bit_at y t) i (moved_high p x i t l o q) (moved_high p y i t l o q))))

-- bits under masks
over_both : (m b c : ℕ) → m < 2 → b < 2 → c < 2 → min m ((b + c) % 2) ≡ (min m b + min m c) % 2
over_both m b c l h g = omega (arith, l, h, g)

under_twice : (m b c : ℕ) → min m (min b c) ≡ min (min m c) b
under_twice m b c = omega arith

under_none : (m c b : ℕ) → min m 0 ≡ min (min m 0) b
under_none m c b = omega arith

pub and_over : (m x y : ℕ) → bit_and m (bit_xor x y) ≡ bit_xor (bit_and m x) (bit_and m y)
and_over m x y = same_from_bits (bit_and m (bit_xor x y)) (bit_xor (bit_and m x) (bit_and m y)) (λ i.
    and_bits m (bit_xor x y) (bit_at m i) ((bit_at x i + bit_at y i) % 2) i refl (bit_at_xor x y i)
    ∙ over_both (bit_at m i) (bit_at x i) (bit_at y i) (bit_at-lt m i) (bit_at-lt x i) (bit_at-lt y i)
    ∙ sym (xor_bits (bit_and m x) (bit_and m y) (min (bit_at m i) (bit_at x i)) (min (bit_at m i) (bit_at y i)) i (bit_at_and m x i) (bit_at_and m y i)))

-- a mark of bits m, of a word whose bits are those of x under a mask at another move
module _ (m p r x w v : ℕ) where
  abbrev MarkOf : ℕ → Type 0
  MarkOf i = bit_at (bit_and m (moved p v)) i ≡ bit_at (bit_and (bit_and m (moved p w)) (moved r x)) i

  none_there : (i : ℕ) → bit_at (moved p v) i ≡ 0 → bit_at (moved p w) i ≡ 0 → MarkOf i
  none_there i e h =
      and_bits m (moved p v) (bit_at m i) 0 i refl e ∙ under_none (bit_at m i) 0 (bit_at (moved r x) i)
      ∙ sym (and_bits (bit_and m (moved p w)) (moved r x) (min (bit_at m i) 0) (bit_at (moved r x) i) i (and_bits m (moved p w) (bit_at m i) 0 i refl h) refl)

  one_there : (i b c : ℕ) → bit_at (moved p v) i ≡ min b c → bit_at (moved p w) i ≡ c → bit_at (moved r x) i ≡ b → MarkOf i
  one_there i b c e h g =
      and_bits m (moved p v) (bit_at m i) (min b c) i refl e ∙ under_twice (bit_at m i) b c
      ∙ sym (and_bits (bit_and m (moved p w)) (moved r x) (min (bit_at m i) c) b i (and_bits m (moved p w) (bit_at m i) c i refl h) g)

  mark_of : ((i : ℕ) → MarkOf i) → bit_and m (moved p v) ≡ bit_and (bit_and m (moved p w)) (moved r x)
  mark_of f = same_from_bits (bit_and m (moved p v)) (bit_and (bit_and m (moved p w)) (moved r x)) f

-- of a word under a mask
pub mask_mark : (m p x w : ℕ) → p < 63 → x < 2 ^ 32 → w < 2 ^ 32 → bit_and m (moved p (bit_and x w)) ≡ bit_and (bit_and m (moved p w)) (moved p x)
mask_mark m p x w l h g = mark_of m p p x w (bit_and x w) (λ i.
    places p i (MarkOf m p p x w (bit_and x w) i)
    (λ a. none_there m p p x w (bit_and x w) i (outside p (bit_and x w) i (and_lt 32 x w h g) a) (outside p w i g a))
    (λ o a. none_there m p p x w (bit_and x w) i (moved_low p (bit_and x w) i l a) (moved_low p w i l a))
    (λ t o q.
    one_there m p p x w (bit_and x w) i (bit_at x t) (bit_at w t) (moved_high p (bit_and x w) i t l o q ∙ bit_at_and x w t) (moved_high p w i t l o q) (moved_high p x i t l o q)))

least_one : (b : ℕ) → b < 2 → b ≡ min b 1
least_one b l = omega (arith, l)

-- of a word shifted to the left
pub left_mark : (m p x k : ℕ) → p + k < 63 → k < 32 → x < 2 ^ 32 → bit_and m (moved p (word_shift_left x k)) ≡ bit_and (bit_and m (moved p (word_shift_left (2 ^ 32 - 1) k))) (moved (p + k) x)
left_mark m p x k l n h =
    let v : ℕ = word_shift_left x k in
    let w : ℕ = word_shift_left (2 ^ 32 - 1) k in
    let less : p < 63 = omega (arith, l) in
    mark_of m p (p + k) x w v (λ i.
    places p i (MarkOf m p (p + k) x w v i)
    (λ a. none_there m p (p + k) x w v i (outside p v i (left_word x k) a) (outside p w i (left_word (2 ^ 32 - 1) k) a))
    (λ o a. none_there m p (p + k) x w v i (moved_low p v i less a) (moved_low p w i less a))
    (λ t o q. split t 32 (MarkOf m p (p + k) x w v i)
    (λ u. split t k (MarkOf m p (p + k) x w v i)
    (λ s. none_there m p (p + k) x w v i (moved_high p v i t less o q ∙ left_low x k t n s) (moved_high p w i t less o q ∙ left_low (2 ^ 32 - 1) k t n s))
    (λ s.
    let at : t ≡ k + (t - k) = omega (arith, s) in
    let there : i + 31 ≡ p + k + (t - k) = omega (arith, q, s) in
    one_there m p (p + k) x w v i (bit_at x (t - k)) 1
    (moved_high p v i t less o q ∙ left_high x k (t - k) t n u at ∙ least_one (bit_at x (t - k)) (bit_at-lt x (t - k)))
    (moved_high p w i t less o q ∙ left_high (2 ^ 32 - 1) k (t - k) t n u at ∙ bit_at_ones 32 (t - k) (omega (arith, u)))
    (moved_high (p + k) x i (t - k) l o there)))
    (λ u.
    none_there m p (p + k) x w v i (moved_high p v i t less o q ∙ bit_at_above v 32 t (left_word x k) u) (moved_high p w i t less o q ∙ bit_at_above w 32 t (left_word (2 ^ 32 - 1) k) u))))

-- of a word shifted to the right, under a mask that is shifted with it
pub right_mark : (m p x k y : ℕ) → p < 63 → k < 32 → x < 2 ^ 32 → y < 2 ^ 32
    → bit_and m (moved p (bit_and (word_shift_right x k) (word_shift_right y k))) ≡ bit_and (bit_and m (moved p (word_shift_right y k))) (moved (p - k) x)
right_mark m p x k y l n h g =
    let w : ℕ = word_shift_right y k in
    let v : ℕ = bit_and (word_shift_right x k) w in
    let word : v < 2 ^ 32 = and_lt 32 (word_shift_right x k) w (right_word x k h) (right_word y k g) in
    mark_of m p (p - k) x w v (λ i.
    places p i (MarkOf m p (p - k) x w v i)
    (λ a. none_there m p (p - k) x w v i (outside p v i word a) (outside p w i (right_word y k g) a))
    (λ o a. none_there m p (p - k) x w v i (moved_low p v i l a) (moved_low p w i l a))
    (λ t o q. split (k + t) 32 (MarkOf m p (p - k) x w v i)
    (λ u.
    let there : i + 31 ≡ p - k + (k + t) = omega (arith, q, u) in
    one_there m p (p - k) x w v i (bit_at x (k + t)) (bit_at y (k + t)) (moved_high p v i t l o q ∙ both t) (moved_high p w i t l o q ∙ right_bit y k t n) (moved_high (p - k) x i (k + t) (omega (arith, l)) o there))
    (λ u.
    let gone : bit_at y (k + t) ≡ 0 = bit_at_above y 32 (k + t) g u in
    none_there m p (p - k) x w v i (moved_high p v i t l o q ∙ both t ∙ ap (λ z. min (bit_at x (k + t)) z) gone ∙ omega arith) (moved_high p w i t l o q ∙ right_bit y k t n ∙ gone))))
  where
    both : (t : ℕ) → bit_at (bit_and (word_shift_right x k) (word_shift_right y k)) t ≡ min (bit_at x (k + t)) (bit_at y (k + t))
    both t = and_bits (word_shift_right x k) (word_shift_right y k) (bit_at x (k + t)) (bit_at y (k + t)) t (right_bit x k t n) (right_bit y k t n)

-- what a move takes out of the word
pub left_out : (p x k : ℕ) → p < 63 → k < 32 → 63 ≤ p + k → moved p (word_shift_left x k) ≡ 0
left_out p x k l n o = by (nat_le 31 p) refl where
  by : (c : Bool) → nat_le 31 p ≡ c → cond c (word_shift_left (word_shift_left x k) (p - 31)) (word_shift_right (word_shift_left x k) (31 - p)) ≡ 0
  by true e = let g : 31 ≤ p = grind (arith, nat_tests, e) in left_over x k (p - 31) n (omega (arith, l)) (omega (arith, g, o))
  by false e = let g : p < 31 = grind (arith, nat_tests, e) in absurd (omega (arith, g, n, o))

-- Operations with a word: a mask, and an exclusive or.
pub all_ones : (x : ℕ) → x < 2 ^ 32 → bit_and x (2 ^ 32 - 1) ≡ x
all_ones x h = and_mask x 32 ∙ omega (arith, h)

max_parts : (a b : ℕ) → a < 2 → b < 2 → max a b ≡ (min a ((b + 1) % 2) + b) % 2
max_parts a b h g = omega (arith, h, g)

pub or_parts : (x w : ℕ) → x < 2 ^ 32 → w < 2 ^ 32 → bit_or x w ≡ bit_xor (bit_and x (others w)) w
or_parts x w h g = same_from_bits (bit_or x w) (bit_xor (bit_and x (others w)) w) (λ i.
    split i 32 (bit_at (bit_or x w) i ≡ bit_at (bit_xor (bit_and x (others w)) w) i)
    (λ l.
    bit_at_or x w i ∙ max_parts (bit_at x i) (bit_at w i) (bit_at-lt x i) (bit_at-lt w i)
    ∙ sym (xor_bits (bit_and x (others w)) w (min (bit_at x i) ((bit_at w i + 1) % 2)) (bit_at w i) i
    (and_bits x (others w) (bit_at x i) ((bit_at w i + 1) % 2) i refl (xor_bits w (2 ^ 32 - 1) (bit_at w i) 1 i refl (bit_at_ones 32 i l))) refl))
    (λ l.
    bit_at_above (bit_or x w) 32 i (or_lt 32 x w h g) l
    ∙ sym (bit_at_above (bit_xor (bit_and x (others w)) w) 32 i (xor_lt 32 (bit_and x (others w)) w (and_lt 32 x (others w) h (xor_lt 32 w (2 ^ 32 - 1) g (omega arith))) g) l)))

pub nor_parts : (x w : ℕ) → x < 2 ^ 32 → w < 2 ^ 32 → 2 ^ 32 - 1 - bit_or x w ≡ bit_xor (bit_and x (others w)) (others w)
nor_parts x w h g =
    sym (complement (bit_or x w) (or_lt 32 x w h g)) ∙ ap (λ z. bit_xor z (2 ^ 32 - 1)) (or_parts x w h g) ∙ xor_assoc (bit_and x (others w)) w (2 ^ 32 - 1)

high_bit : (x : ℕ) → x < 2 ^ 32 → bit_and x (2 ^ 31) ≡ x / 2 ^ 31 * 2 ^ 31
high_bit x h = and_pow x 31 ∙ omega (arith, h)

pub turned : (x : ℕ) → x < 2 ^ 32 → word_add x (2 ^ 31) ≡ bit_xor x (2 ^ 31)
turned x h = let e = xor_add_and x (2 ^ 31) in let b = high_bit x h in omega (arith, e, b, h)

pub add_parts : (x : ℕ) → x < 2 ^ 32 → word_add x (2 ^ 31) ≡ bit_xor (bit_and x (2 ^ 32 - 1)) (2 ^ 31)
add_parts x h = turned x h ∙ ap (λ z. bit_xor z (2 ^ 31)) (sym (all_ones x h))

pub less_parts : (x : ℕ) → x < 2 ^ 32 → word_sub (2 ^ 32 - 1) x ≡ bit_xor (bit_and x (2 ^ 32 - 1)) (2 ^ 32 - 1)
unfolding word_sub
less_parts x h = let e : word_sub (2 ^ 32 - 1) x ≡ 2 ^ 32 - 1 - x = grind (arith, ints, h) in e ∙ sym (complement x h) ∙ ap (λ z. bit_xor z (2 ^ 32 - 1)) (sym (all_ones x h))

-- A shift to the right with the sign in: the shift with zeros in, and the sign in the highest bits.
abbrev pub sign_bits : ℕ → ℕ → ℕ
sign_bits x zero = 0
sign_bits x (suc k) = bit_xor (sign_bits x k) (bit_and (word_shift_right x k) (word_shift_right (2 ^ 31) k))

one_sign : (x k : ℕ) → k < 32 → bit_and (word_shift_right x k) (word_shift_right (2 ^ 31) k) ≡ bit_and x (2 ^ 31) / 2 ^ k
unfolding word_shift_right
one_sign x k l = let e : k % 32 ≡ k = omega (arith, l) in ap (λ n. bit_and (x / 2 ^ n) (2 ^ 31 / 2 ^ n)) e ∙ sym (and_shr x (2 ^ 31) k)

no_signs : (x k : ℕ) → x < 2 ^ 31 → k < 32 → sign_bits x k ≡ 0
no_signs x zero h l = refl
no_signs x (suc k) h l =
    let b : bit_and x (2 ^ 31) ≡ 0 = high_bit x (omega (arith, h)) ∙ omega (arith, h) in
    let s : bit_and (word_shift_right x k) (word_shift_right (2 ^ 31) k) ≡ 0 = one_sign x k (omega (arith, l)) ∙ ap (λ z. z / 2 ^ k) b ∙ zero_shifted k in
    ap (λ z. bit_xor z (bit_and (word_shift_right x k) (word_shift_right (2 ^ 31) k))) (no_signs x k h (omega (arith, l))) ∙ ap (λ z. bit_xor 0 z) s
  where
    zero_shifted : (k : ℕ) → 0 / 2 ^ k ≡ 0
    zero_shifted k = let b : 0 / 2 ^ k ≤ 0 = shr_le 0 k in omega (arith, b)

-- 2^n with all bits below it are 2^n and all bits below it
next_ones : (n : ℕ) → bit_xor (2 ^ (n + 1) - 1) (2 ^ n) ≡ 2 ^ n - 1
next_ones n =
    let e = xor_add_and (2 ^ (n + 1) - 1) (2 ^ n) in
    let b : bit_and (2 ^ (n + 1) - 1) (2 ^ n) ≡ 2 ^ n = and_pow (2 ^ (n + 1) - 1) n ∙ ap (λ z. z * 2 ^ n) (bit_at_ones (n + 1) n (omega arith)) ∙ omega arith in
    let d : 2 ^ (n + 1) ≡ 2 ^ n * 2 = pow-add 2 n 1 in
    let o = pow_pos n in omega (arith, e, b, d, o)

-- of a word with a sign
signs_all : (x k : ℕ) → 2 ^ 31 ≤ x → x < 2 ^ 32 → k < 32 → sign_bits x k ≡ bit_xor ((2 ^ 32 - 1) / 2 ^ k) (2 ^ 32 - 1)
signs_all x zero g h l = omega arith
signs_all x (suc k) g h l =
    let n : ℕ = 31 - k in
    let b : bit_and x (2 ^ 31) ≡ 2 ^ 31 = high_bit x h ∙ omega (arith, g, h) in
    let s : bit_and (word_shift_right x k) (word_shift_right (2 ^ 31) k) ≡ 2 ^ 31 / 2 ^ k = one_sign x k (omega (arith, l)) ∙ ap (λ z. z / 2 ^ k) b in
    let w : (2 ^ 32 - 1) / 2 ^ k ≡ 2 ^ (n + 1) - 1 = ones_shr 32 k (omega (arith, l)) ∙ (let q : 32 - k ≡ n + 1 = omega (arith, l) in ap (λ j. 2 ^ j - 1) q) in
    let u : (2 ^ 32 - 1) / 2 ^ suc k ≡ 2 ^ n - 1 = ones_shr 32 (suc k) (omega (arith, l)) ∙ (let q : 32 - suc k ≡ n = omega (arith, l) in ap (λ j. 2 ^ j - 1) q) in
    let o : 2 ^ 31 / 2 ^ k ≡ 2 ^ n = (let q : 31 ≡ n + k = omega (arith, l) in ap (λ j. 2 ^ j / 2 ^ k) q) ∙ ap (λ z. z / 2 ^ k) (pow-add 2 n k) ∙ shl-shr (2 ^ n) k in
    ap (λ z. bit_xor z (bit_and (word_shift_right x k) (word_shift_right (2 ^ 31) k))) (signs_all x k g h (omega (arith, l))) ∙ ap (λ z. bit_xor (bit_xor ((2 ^ 32 - 1) / 2 ^ k) (2 ^ 32 - 1)) z) (s ∙ o)
    ∙ xor_assoc ((2 ^ 32 - 1) / 2 ^ k) (2 ^ 32 - 1) (2 ^ n) ∙ ap (bit_xor ((2 ^ 32 - 1) / 2 ^ k)) (xor_comm (2 ^ 32 - 1) (2 ^ n)) ∙ sym (xor_assoc ((2 ^ 32 - 1) / 2 ^ k) (2 ^ n) (2 ^ 32 - 1))
    ∙ ap (λ z. bit_xor (bit_xor z (2 ^ n)) (2 ^ 32 - 1)) w ∙ ap (λ z. bit_xor z (2 ^ 32 - 1)) (next_ones n ∙ sym u)

pub signed_parts : (x k : ℕ) → x < 2 ^ 32 → k < 32 → word_shift_right_signed x k ≡ bit_xor (word_shift_right x k) (sign_bits x k)
unfolding word_shift_right
signed_parts x k h l = split x (2 ^ 31) (word_shift_right_signed x k ≡ bit_xor (x / 2 ^ (k % 32)) (sign_bits x k)) low high where
  e : k % 32 ≡ k
  e = omega (arith, l)

  low : x < 2 ^ 31 → word_shift_right_signed x k ≡ bit_xor (x / 2 ^ (k % 32)) (sign_bits x k)
  low g = signed_low x k g l ∙ ap (λ n. x / 2 ^ n) (sym e) ∙ sym (ap (bit_xor (x / 2 ^ (k % 32))) (no_signs x k g l) ∙ xor_zero_r (x / 2 ^ (k % 32)))

  high : 2 ^ 31 ≤ x → word_shift_right_signed x k ≡ bit_xor (x / 2 ^ (k % 32)) (sign_bits x k)
  high g =
      let c : ℕ = 2 ^ 32 - 1 - x in
      let b : c / 2 ^ k ≤ c = shr_le c k in
      signed_high x k g h l ∙ sym (complement (c / 2 ^ k) (omega (arith, b)))
      ∙ ap (λ z. bit_xor (z / 2 ^ k) (2 ^ 32 - 1)) (sym (complement x h)) ∙ ap (λ z. bit_xor z (2 ^ 32 - 1)) (xor_shr x (2 ^ 32 - 1) k)
      ∙ xor_assoc (x / 2 ^ k) ((2 ^ 32 - 1) / 2 ^ k) (2 ^ 32 - 1) ∙ ap (bit_xor (x / 2 ^ k)) (sym (signs_all x k g h l)) ∙ ap (λ n. bit_xor (x / 2 ^ n) (sign_bits x k)) (sym e)

pub sign_word : (x k : ℕ) → x < 2 ^ 32 → sign_bits x k < 2 ^ 32
sign_word x zero h = omega arith
sign_word x (suc k) h =
    xor_lt 32 (sign_bits x k) (bit_and (word_shift_right x k) (word_shift_right (2 ^ 31) k)) (sign_word x k h)
    (and_lt 32 (word_shift_right x k) (word_shift_right (2 ^ 31) k) (right_word x k h) (right_word (2 ^ 31) k (omega arith)))

-- all that is shifted is under the mask that is shifted with it
pub shifted_ones : (x k : ℕ) → x < 2 ^ 32 → k < 32 → bit_and (word_shift_right x k) (word_shift_right (2 ^ 32 - 1) k) ≡ word_shift_right x k
unfolding word_shift_right
shifted_ones x k h l = sym (and_shr x (2 ^ 32 - 1) (k % 32)) ∙ ap (λ z. z / 2 ^ (k % 32)) (all_ones x h)

-- shifts look at the low five bits
pub left_five : (x w : ℕ) → word_shift_left x w ≡ word_shift_left x (w % 32)
unfolding word_shift_left
left_five x w = let e : w % 32 ≡ w % 32 % 32 = omega arith in ap (λ n. x * 2 ^ n % 2 ^ 32) e

pub right_five : (x w : ℕ) → word_shift_right x w ≡ word_shift_right x (w % 32)
unfolding word_shift_right
right_five x w = let e : w % 32 ≡ w % 32 % 32 = omega arith in ap (λ n. x / 2 ^ n) e

pub signed_five : (x w : ℕ) → word_shift_right_signed x w ≡ word_shift_right_signed x (w % 32)
unfolding word_shift_right_signed
signed_five x w = let e : w % 32 ≡ w % 32 % 32 = omega arith in ap (λ n. modulo (int_div_euclid (signed x) (pos (2 ^ n))) (2 ^ 32)) e

pub moved_none : (p : ℕ) → p < 63 → moved p 0 ≡ 0
moved_none p l = moved_xor p 0 0 l (omega arith) (omega arith) ∙ xor_self (moved p 0)

pub mask_none : (m p : ℕ) → p < 63 → bit_and m (moved p 0) ≡ 0
mask_none m p l = ap (bit_and m) (moved_none p l) ∙ and_zero_r m

pub over_left : (x y m : ℕ) → bit_and (bit_xor x y) m ≡ bit_xor (bit_and x m) (bit_and y m)
over_left x y m = and_comm (bit_xor x y) m ∙ and_over m x y ∙ ap (λ z. bit_xor z (bit_and m y)) (and_comm m x) ∙ ap (bit_xor (bit_and x m)) (and_comm m y)

pub last_out : (a b c : ℕ) → bit_xor (bit_xor a b) c ≡ bit_xor (bit_xor a c) b
last_out a b c = xor_assoc a b c ∙ ap (bit_xor a) (xor_comm b c) ∙ sym (xor_assoc a c b)

-- all bits of a word as it stands, and what is the same
pub unmoved : (x : ℕ) → x < 2 ^ 32 → bit_and (2 ^ 32 - 1) (moved 31 x) ≡ x
unfolding word_shift_left
unmoved x h = let e : x * 2 ^ (0 % 32) % 2 ^ 32 ≡ x = omega (arith, h) in ap (bit_and (2 ^ 32 - 1)) e ∙ and_comm (2 ^ 32 - 1) x ∙ all_ones x h

pub same_words : (x y : ℕ) → bit_xor x y ≡ 0 → x ≡ y
same_words x y e = sym (xor_zero_r x) ∙ ap (bit_xor x) (sym (xor_self y)) ∙ sym (xor_assoc x y y) ∙ ap (λ z. bit_xor z y) e ∙ xor_zero_l y
