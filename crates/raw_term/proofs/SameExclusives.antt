-- Where the exclusive or of two terms is seen to be nothing, both have one value, under all words for the inputs.
use Rattle.std.proofs.Common.{◌≡◌, ℕ, zero, suc, ◌+◌, ◌-◌, ◌*◌, ◌/◌, ◌%◌, ◌^◌, ◌<◌, ◌≤◌, Bool, true, false, cond, List, length, Option, Some, None, refl, sym, ap, ◌∙◌, subst, ⊎_elim, arith}
use Rattle.std.specs.Prelude.{slice_get, slice_index, ◌==◌, nat_le, bit_and, bit_or, bit_xor}
use Rattle.std.specs.Int.Bits.{xor_assoc, xor_zero_l, xor_zero_r, and_zero_l, and_zero_r, and_lt}
use Rattle.std.proofs.lemmas.Bool.{eqb-true, eqb-false}
use Rattle.std.proofs.lemmas.Nat.{xor_comm, xor_lt}
use Rattle.std.proofs.lemmas.List.{get_or-set_same, get_or-set_other, length-set, get_or-replicate, length-replicate}
use Rattle.raw_tile_isa.specs.Words.{word_add, word_sub, word_shift_left, word_shift_right, word_shift_right_signed}
use Rattle.raw_flow.specs.declared.node.FlowOp.{FlowOp}
use Rattle.raw_flow.specs.declared.node.FlowOp.TheVariants.{Add, Sub, Mul, MulHigh, MulHighUnsigned, And, Or, Xor, Nor, Less, LessUnsigned, ShiftLeft, ShiftRight, ShiftRightSigned}
use Rattle.raw_flow.specs.declared.node.Node.{Node}
use Rattle.raw_flow.specs.declared.node.Node.TheVariants.{Input, Const, Apply}
use Rattle.raw_term.specs.Terms.{word_of, word_in}
use Rattle.raw_term.specs.Sums.{many_to}
use Rattle.raw_term.specs.Exclusives.{moves, moved, others, Marks, and_at, and_mark, and_word, masked, left, right, right_zeros, signs, by_word, by_word_in, less_from, marked, all_of, are_nothing, no_marks, both, is_same_exclusive_or}
use Rattle.raw_term.proofs.Terms.{true_false, both_true, AreTerms, term_values}
use Rattle.raw_term.proofs.SameSums.{less_or_same, small, apply_index, word_index, many_over, many_within}
use Rattle.raw_term.proofs.Moves.{split, moved_xor, and_over, over_left, last_out, mask_mark, left_mark, right_mark, left_out, or_parts, nor_parts, add_parts, less_parts, sign_bits, sign_word, signed_parts, shifted_ones, left_five, right_five, signed_five, mask_none, right_word, unmoved, same_words}

-- of the marks at the first i places, and the word: what they make by exclusive or
abbrev pub weight : List ℕ → Marks → ℕ → ℕ
weight vs s zero = s.rest
weight vs s (suc i) = bit_xor (bit_and (slice_index s.bits i) (moved (i % moves) (slice_index vs (i / moves)))) (weight vs s i)

word_weighs : (vs : List ℕ) (s : Marks) (m p w i : ℕ) → weight vs (and_word m p w s) i ≡ bit_xor (weight vs s i) (bit_and m (moved p w))
word_weighs vs s m p w zero = refl
word_weighs vs s m p w (suc i) =
    ap (bit_xor (bit_and (slice_index s.bits i) (moved (i % moves) (slice_index vs (i / moves))))) (word_weighs vs s m p w i)
    ∙ sym (xor_assoc (bit_and (slice_index s.bits i) (moved (i % moves) (slice_index vs (i / moves)))) (weight vs s i) (bit_and m (moved p w)))

other_weighs : (vs : List ℕ) (s : Marks) (m j i : ℕ) → i ≤ j → weight vs (and_at m j s) i ≡ weight vs s i
other_weighs vs s m j zero l = refl
other_weighs vs s m j (suc i) l =
    let h = other_weighs vs s m j i (omega (arith, l)) in
    let e : slice_index (and_at m j s).bits i ≡ slice_index s.bits i = get_or-set_other s.bits j i (bit_xor (slice_index s.bits j) m) 0 (λ q. absurd (omega (arith, l, q))) in
    ap (λ x. bit_xor (bit_and x (moved (i % moves) (slice_index vs (i / moves)))) (weight vs (and_at m j s) i)) e
    ∙ ap (bit_xor (bit_and (slice_index s.bits i) (moved (i % moves) (slice_index vs (i / moves))))) h

-- the bits m at a place more
abbrev Adds : List ℕ → Marks → ℕ → ℕ → ℕ → Type 0
Adds vs s m j i = weight vs (and_at m j s) i ≡ bit_xor (weight vs s i) (bit_and m (moved (j % moves) (slice_index vs (j / moves))))

at_weighs : (vs : List ℕ) (s : Marks) (m j i : ℕ) → j < i → j < length s.bits → Adds vs s m j i
at_weighs vs s m j zero l k = absurd (omega (arith, l))
at_weighs vs s m j (suc i) l k = ⊎_elim (λ h. below h (at_weighs vs s m j i h k)) here (less_or_same j i l) where
  below : j < i → Adds vs s m j i → Adds vs s m j (suc i)
  below h more =
      let v : ℕ = moved (i % moves) (slice_index vs (i / moves)) in
      let e : slice_index (and_at m j s).bits i ≡ slice_index s.bits i = get_or-set_other s.bits j i (bit_xor (slice_index s.bits j) m) 0 (λ q. absurd (omega (arith, h, q))) in
      ap (λ x. bit_xor (bit_and x v) (weight vs (and_at m j s) i)) e ∙ ap (bit_xor (bit_and (slice_index s.bits i) v)) more
      ∙ sym (xor_assoc (bit_and (slice_index s.bits i) v) (weight vs s i) (bit_and m (moved (j % moves) (slice_index vs (j / moves)))))

  here : j ≡ i → Adds vs s m j (suc i)
  here q =
      subst (λ n. Adds vs s m j (suc n)) q
      (let v : ℕ = moved (j % moves) (slice_index vs (j / moves)) in
      let e : slice_index (and_at m j s).bits j ≡ bit_xor (slice_index s.bits j) m = get_or-set_same s.bits j (bit_xor (slice_index s.bits j) m) 0 k in
      let u = other_weighs vs s m j j (omega arith) in
      ap (λ x. bit_xor (bit_and x v) (weight vs (and_at m j s) j)) e ∙ ap (bit_xor (bit_and (bit_xor (slice_index s.bits j) m) v)) u
      ∙ ap (λ x. bit_xor x (weight vs s j)) (over_left (slice_index s.bits j) m v) ∙ last_out (bit_and (slice_index s.bits j) v) (bit_and m v) (weight vs s j))

mark_weighs : (vs : List ℕ) (s : Marks) (m p c i : ℕ) → p < 63 → c * 63 + p < i → i ≤ length s.bits → weight vs (and_mark m p c s) i ≡ bit_xor (weight vs s i) (bit_and m (moved p (slice_index vs c)))
mark_weighs vs s m p c i l h k =
    let move : (c * 63 + p) % 63 ≡ p = omega (arith, l) in
    let term : (c * 63 + p) / 63 ≡ c = omega (arith, l) in
    at_weighs vs s m (c * 63 + p) i h (omega (arith, h, k)) ∙ ap (λ n. bit_xor (weight vs s i) (bit_and m (moved n (slice_index vs ((c * 63 + p) / 63))))) move
    ∙ ap (λ n. bit_xor (weight vs s i) (bit_and m (moved p (slice_index vs n)))) term

at_long : (m j : ℕ) (s : Marks) → length (and_at m j s).bits ≡ length s.bits
at_long m j s = length-set s.bits j (bit_xor (slice_index s.bits j) m)

module _ (inputs : List ℕ) (nodes : List Node) (are : AreTerms inputs nodes) where
  abbrev values : List ℕ
  values = term_values inputs nodes

  -- marks with the bits m of the place i have the value of these without them
  abbrev pub Follows : ℕ → ℕ → Marks → Option Marks → Type 0
  Follows i m s None = Unit {0}
  Follows i m s (Some t) = (bit_xor (bit_and m (moved (i % 63) (slice_index values (i / 63)))) (weight values s i) ≡ weight values t i) × (length t.bits ≡ length s.bits)

  module _ (i m : ℕ) (s : Marks) (within : i / 63 < length nodes) (long : i < length s.bits) where
    -- what the term at the place is: exclusive or with so much more gives what is left
    abbrev Gives : ℕ → Marks → Type 0
    Gives z t = weight values t i ≡ bit_xor (weight values s i) (bit_and m (moved (i % 63) z))

    follows : (z : ℕ) (t : Marks) → slice_index values (i / 63) ≡ z → Gives z t → length t.bits ≡ length s.bits → Follows i m s (Some t)
    follows z t is gives same =
        (ap (λ x. bit_xor (bit_and m (moved (i % 63) x)) (weight values s i)) is ∙ xor_comm (bit_and m (moved (i % 63) z)) (weight values s i) ∙ sym gives, same)

    move : i % 63 < 63
    move = omega arith

    -- the place of a term that stands before
    before : (a q : ℕ) → a < i / 63 → q < 63 → a * 63 + q < i
    before a q l h = omega (arith, l, h)

    word_there : (c w : ℕ) → c < i / 63 → word_in nodes c ≡ Some w → w < 2 ^ 32
    word_there c w l e = subst (λ x. x < 2 ^ 32) (word_index inputs nodes are c w e) (small inputs nodes are c (omega (arith, l, within)))

    value_word : (a : ℕ) → a < i / 63 → slice_index values a < 2 ^ 32
    value_word a l = small inputs nodes are a (omega (arith, l, within))

    const_follows : (w : ℕ) → slice_get nodes (i / 63) ≡ Some (Const w) → Follows i m s (Some (and_word m (i % 63) w s))
    const_follows w e = follows w (and_word m (i % 63) w s) (word_index inputs nodes are (i / 63) w (ap word_of e)) (word_weighs values s m (i % 63) w i) refl

    xor_follows : (a b : ℕ) → slice_get nodes (i / 63) ≡ Some (Apply Xor a b) → Follows i m s (Some (and_mark m (i % 63) b (and_mark m (i % 63) a s)))
    xor_follows a b e =
        let l = are.are (i / 63) (Apply Xor a b) e in
        let p : ℕ = i % 63 in
        let x : ℕ = slice_index values a in
        let y : ℕ = slice_index values b in
        let t : Marks = and_mark m p a s in
        follows (bit_xor x y) (and_mark m p b t) (apply_index inputs nodes are (i / 63) Xor a b within e)
        (mark_weighs values t m p b i move (before b p l.1 move) (omega (arith, at_long m (a * 63 + p) s, long))
        ∙ ap (λ z. bit_xor z (bit_and m (moved p y))) (mark_weighs values s m p a i move (before a p l.0 move) (omega (arith, long)))
        ∙ xor_assoc (weight values s i) (bit_and m (moved p x)) (bit_and m (moved p y))
        ∙ ap (bit_xor (weight values s i)) (sym (ap (bit_and m) (moved_xor p x y move (value_word a l.0) (value_word b l.1)) ∙ and_over m (moved p x) (moved p y))))
        (at_long m (b * 63 + p) t ∙ at_long m (a * 63 + p) s)

    -- a term under a mask, and a word
    masked_follows : (a w v : ℕ) → a < i / 63 → w < 2 ^ 32 → v < 2 ^ 32 → slice_index values (i / 63) ≡ bit_xor (bit_and (slice_index values a) w) v → Follows i m s (Some (masked m (i % 63) a w v s))
    masked_follows a w v l h g is =
        let p : ℕ = i % 63 in
        let x : ℕ = slice_index values a in
        let n : ℕ = bit_and m (moved p w) in
        let t : Marks = and_mark n p a s in
        follows (bit_xor (bit_and x w) v) (and_word m p v t) is
        (word_weighs values t m p v i ∙ ap (λ z. bit_xor z (bit_and m (moved p v))) (mark_weighs values s n p a i move (before a p l move) (omega (arith, long)))
        ∙ ap (λ z. bit_xor (bit_xor (weight values s i) z) (bit_and m (moved p v))) (sym (mask_mark m p x w move (value_word a l) h))
        ∙ xor_assoc (weight values s i) (bit_and m (moved p (bit_and x w))) (bit_and m (moved p v))
        ∙ ap (bit_xor (weight values s i))
        (sym (ap (bit_and m) (moved_xor p (bit_and x w) v move (and_lt 32 x w (value_word a l) h) g) ∙ and_over m (moved p (bit_and x w)) (moved p v))))
        (at_long n (a * 63 + p) s)

    -- a term shifted to the left
    abbrev left_bits : ℕ → ℕ
    left_bits k = bit_and m (moved (i % 63) (word_shift_left (2 ^ 32 - 1) k))

    left_gone : (x k : ℕ) → k < 32 → x < 2 ^ 32 → left_bits k ≡ 0 → bit_and m (moved (i % 63) (word_shift_left x k)) ≡ 0
    left_gone x k n h e =
        split (i % 63 + k) 63 (bit_and m (moved (i % 63) (word_shift_left x k)) ≡ 0)
        (λ o. left_mark m (i % 63) x k o n h ∙ ap (λ z. bit_and z (moved (i % 63 + k) x)) e ∙ and_zero_l (moved (i % 63 + k) x))
        (λ o. ap (bit_and m) (left_out (i % 63) x k move n o) ∙ and_zero_r m)

    left_follows : (a k : ℕ) → a < i / 63 → k < 32 → slice_index values (i / 63) ≡ word_shift_left (slice_index values a) k → Follows i m s (Some (left m (i % 63) a k s))
    left_follows a k l n is = by (left_bits k == 0) refl where
      by : (c : Bool) → (left_bits k == 0) ≡ c → Follows i m s (Some (cond c s (and_mark (left_bits k) (i % 63 + k) a s)))
      by true e =
          follows (word_shift_left (slice_index values a) k) s is
          (sym (ap (bit_xor (weight values s i)) (left_gone (slice_index values a) k n (value_word a l) (eqb-true (left_bits k) 0 e)) ∙ xor_zero_r (weight values s i))) refl
      by false e =
          split (i % 63 + k) 63 (Follows i m s (Some (and_mark (left_bits k) (i % 63 + k) a s)))
          (λ o.
          follows (word_shift_left (slice_index values a) k) (and_mark (left_bits k) (i % 63 + k) a s) is
          (mark_weighs values s (left_bits k) (i % 63 + k) a i o (before a (i % 63 + k) l o) (omega (arith, long))
          ∙ ap (bit_xor (weight values s i)) (sym (left_mark m (i % 63) (slice_index values a) k o n (value_word a l))))
          (at_long (left_bits k) (a * 63 + (i % 63 + k)) s))
          (λ o. absurd (eqb-false (left_bits k) 0 e (ap (bit_and m) (left_out (i % 63) (2 ^ 32 - 1) k move n o) ∙ and_zero_r m)))

    -- a term shifted to the right, under a mask that is shifted with it, from any marks on
    abbrev right_bits : ℕ → ℕ → ℕ
    right_bits y k = bit_and m (moved (i % 63) (word_shift_right y k))

    abbrev shifted : ℕ → ℕ → ℕ → ℕ
    shifted a y k = bit_and (word_shift_right (slice_index values a) k) (word_shift_right y k)

    right_weighs : (t : Marks) (a k y : ℕ) → a < i / 63 → k < 32 → y < 2 ^ 32 → i ≤ length t.bits
        → weight values (right m (i % 63) a k (word_shift_right y k) t) i ≡ bit_xor (weight values t i) (bit_and m (moved (i % 63) (shifted a y k)))
    right_weighs t a k y l n g all = by (right_bits y k == 0) refl where
      as_mark : bit_and m (moved (i % 63) (shifted a y k)) ≡ bit_and (right_bits y k) (moved (i % 63 - k) (slice_index values a))
      as_mark = right_mark m (i % 63) (slice_index values a) k y move n (value_word a l) g

      by : (c : Bool) → (right_bits y k == 0) ≡ c
          → weight values (cond c t (and_mark (right_bits y k) (i % 63 - k) a t)) i ≡ bit_xor (weight values t i) (bit_and m (moved (i % 63) (shifted a y k)))
      by true e =
          sym (ap (bit_xor (weight values t i)) (as_mark ∙ ap (λ z. bit_and z (moved (i % 63 - k) (slice_index values a))) (eqb-true (right_bits y k) 0 e) ∙ and_zero_l (moved (i % 63 - k) (slice_index values a)))
          ∙ xor_zero_r (weight values t i))
      by false e =
          mark_weighs values t (right_bits y k) (i % 63 - k) a i (omega (arith, move)) (before a (i % 63 - k) l (omega (arith, move))) all ∙ ap (bit_xor (weight values t i)) (sym as_mark)

    right_long : (t : Marks) (a k w : ℕ) → length (right m (i % 63) a k w t).bits ≡ length t.bits
    right_long t a k w = by (bit_and m (moved (i % 63) w) == 0) where
      by : (c : Bool) → length (cond c t (and_mark (bit_and m (moved (i % 63) w)) (i % 63 - k) a t)).bits ≡ length t.bits
      by true = refl
      by false = at_long (bit_and m (moved (i % 63) w)) (a * 63 + (i % 63 - k)) t

    zeros_weigh : (a k : ℕ) → a < i / 63 → k < 32
        → weight values (right_zeros m (i % 63) a k s) i ≡ bit_xor (weight values s i) (bit_and m (moved (i % 63) (word_shift_right (slice_index values a) k)))
    zeros_weigh a k l n =
        right_weighs s a k (2 ^ 32 - 1) l n (omega arith) (omega (arith, long))
        ∙ ap (λ z. bit_xor (weight values s i) (bit_and m (moved (i % 63) z))) (shifted_ones (slice_index values a) k (value_word a l) n)

    right_follows : (a k : ℕ) → a < i / 63 → k < 32 → slice_index values (i / 63) ≡ word_shift_right (slice_index values a) k → Follows i m s (Some (right_zeros m (i % 63) a k s))
    right_follows a k l n is =
        follows (word_shift_right (slice_index values a) k) (right_zeros m (i % 63) a k s) is (zeros_weigh a k l n) (right_long s a k (word_shift_right (2 ^ 32 - 1) k))

    -- and the sign
    signs_long : (t : Marks) (a k : ℕ) → length (signs m (i % 63) a k t).bits ≡ length t.bits
    signs_long t a zero = refl
    signs_long t a (suc k) = right_long (signs m (i % 63) a k t) a k (word_shift_right (2 ^ 31) k) ∙ signs_long t a k

    signs_weigh : (t : Marks) (a k : ℕ) → a < i / 63 → k < 32 → i ≤ length t.bits
        → weight values (signs m (i % 63) a k t) i ≡ bit_xor (weight values t i) (bit_and m (moved (i % 63) (sign_bits (slice_index values a) k)))
    signs_weigh t a zero l n all = sym (ap (bit_xor (weight values t i)) (mask_none m (i % 63) move) ∙ xor_zero_r (weight values t i))
    signs_weigh t a (suc k) l n all =
        let p : ℕ = i % 63 in
        let x : ℕ = sign_bits (slice_index values a) k in
        let y : ℕ = shifted a (2 ^ 31) k in
        let h : x < 2 ^ 32 = sign_word (slice_index values a) k (value_word a l) in
        let g : y < 2 ^ 32 = and_lt 32 (word_shift_right (slice_index values a) k) (word_shift_right (2 ^ 31) k) (right_word (slice_index values a) k (value_word a l)) (right_word (2 ^ 31) k (omega arith)) in
        right_weighs (signs m p a k t) a k (2 ^ 31) l (omega (arith, n)) (omega arith) (omega (arith, all, signs_long t a k))
        ∙ ap (λ z. bit_xor z (bit_and m (moved p y))) (signs_weigh t a k l (omega (arith, n)) all)
        ∙ xor_assoc (weight values t i) (bit_and m (moved p x)) (bit_and m (moved p y))
        ∙ ap (bit_xor (weight values t i)) (sym (ap (bit_and m) (moved_xor p x y move h g) ∙ and_over m (moved p x) (moved p y)))

    signed_follows : (a k : ℕ) → a < i / 63 → k < 32 → slice_index values (i / 63) ≡ word_shift_right_signed (slice_index values a) k
        → Follows i m s (Some (signs m (i % 63) a k (right_zeros m (i % 63) a k s)))
    signed_follows a k l n is =
        let p : ℕ = i % 63 in
        let x : ℕ = word_shift_right (slice_index values a) k in
        let y : ℕ = sign_bits (slice_index values a) k in
        let t : Marks = right_zeros m p a k s in
        let same = right_long s a k (word_shift_right (2 ^ 32 - 1) k) in
        follows (bit_xor x y) (signs m p a k t) (is ∙ signed_parts (slice_index values a) k (value_word a l) n)
        (signs_weigh t a k l n (omega (arith, same, long)) ∙ ap (λ z. bit_xor z (bit_and m (moved p y))) (zeros_weigh a k l n)
        ∙ xor_assoc (weight values s i) (bit_and m (moved p x)) (bit_and m (moved p y))
        ∙ ap (bit_xor (weight values s i))
        (sym (ap (bit_and m) (moved_xor p x y move (right_word (slice_index values a) k (value_word a l)) (sign_word (slice_index values a) k (value_word a l))) ∙ and_over m (moved p x) (moved p y))))
        (signs_long t a k ∙ same)

    -- an operation on a term and a word
    five : (w : ℕ) → w % 32 < 32
    five w = omega arith

    word_follows : (op : FlowOp) (a b w : ℕ) → a < i / 63 → w < 2 ^ 32 → slice_index values b ≡ w → slice_get nodes (i / 63) ≡ Some (Apply op a b) → Follows i m s (by_word m (i % 63) op a w s)
    word_follows And a b w l h is e =
        masked_follows a w 0 l h (omega arith) (apply_index inputs nodes are (i / 63) And a b within e ∙ ap (bit_and (slice_index values a)) is ∙ sym (xor_zero_r (bit_and (slice_index values a) w)))
    word_follows Or a b w l h is e =
        masked_follows a (others w) w l (xor_lt 32 w (2 ^ 32 - 1) h (omega arith)) h
        (apply_index inputs nodes are (i / 63) Or a b within e ∙ ap (bit_or (slice_index values a)) is ∙ or_parts (slice_index values a) w (value_word a l) h)
    word_follows Nor a b w l h is e =
        masked_follows a (others w) (others w) l (xor_lt 32 w (2 ^ 32 - 1) h (omega arith)) (xor_lt 32 w (2 ^ 32 - 1) h (omega arith))
        (apply_index inputs nodes are (i / 63) Nor a b within e ∙ ap (λ z. 2 ^ 32 - 1 - bit_or (slice_index values a) z) is ∙ nor_parts (slice_index values a) w (value_word a l) h)
    word_follows Add a b w l h is e = by (w == 2 ^ 31) refl where
      by : (c : Bool) → (w == 2 ^ 31) ≡ c → Follows i m s (cond c (Some (masked m (i % 63) a (2 ^ 32 - 1) w s)) None)
      by false q = tt
      by true q =
          let v : w ≡ 2 ^ 31 = eqb-true w (2 ^ 31) q in
          masked_follows a (2 ^ 32 - 1) w l (omega arith) h
          (apply_index inputs nodes are (i / 63) Add a b within e ∙ ap (word_add (slice_index values a)) (is ∙ v) ∙ add_parts (slice_index values a) (value_word a l)
          ∙ ap (bit_xor (bit_and (slice_index values a) (2 ^ 32 - 1))) (sym v))
    word_follows ShiftLeft a b w l h is e =
        left_follows a (w % 32) l (five w) (apply_index inputs nodes are (i / 63) ShiftLeft a b within e ∙ ap (word_shift_left (slice_index values a)) is ∙ left_five (slice_index values a) w)
    word_follows ShiftRight a b w l h is e =
        right_follows a (w % 32) l (five w) (apply_index inputs nodes are (i / 63) ShiftRight a b within e ∙ ap (word_shift_right (slice_index values a)) is ∙ right_five (slice_index values a) w)
    word_follows ShiftRightSigned a b w l h is e =
        signed_follows a (w % 32) l (five w)
        (apply_index inputs nodes are (i / 63) ShiftRightSigned a b within e ∙ ap (word_shift_right_signed (slice_index values a)) is ∙ signed_five (slice_index values a) w)
    word_follows Sub a b w l h is e = tt
    word_follows Mul a b w l h is e = tt
    word_follows MulHigh a b w l h is e = tt
    word_follows MulHighUnsigned a b w l h is e = tt
    word_follows Xor a b w l h is e = tt
    word_follows Less a b w l h is e = tt
    word_follows LessUnsigned a b w l h is e = tt

    with_follows : (op : FlowOp) (a b : ℕ) (o : Option ℕ) → word_in nodes b ≡ o → slice_get nodes (i / 63) ≡ Some (Apply op a b) → Follows i m s (by_word_in m (i % 63) op a s o)
    with_follows op a b None q e = tt
    with_follows op a b (Some w) q e =
        let l = are.are (i / 63) (Apply op a b) e in
        word_follows op a b w l.0 (word_there b w l.1 q) (word_index inputs nodes are b w q) e

    sub_follows : (a b : ℕ) (o : Option ℕ) → word_in nodes a ≡ o → slice_get nodes (i / 63) ≡ Some (Apply Sub a b) → Follows i m s (less_from m (i % 63) b s o)
    sub_follows a b None q e = tt
    sub_follows a b (Some w) q e = by (w == 2 ^ 32 - 1) refl where
      by : (c : Bool) → (w == 2 ^ 32 - 1) ≡ c → Follows i m s (cond c (Some (masked m (i % 63) b w w s)) None)
      by false g = tt
      by true g =
          let l = are.are (i / 63) (Apply Sub a b) e in
          let v : w ≡ 2 ^ 32 - 1 = eqb-true w (2 ^ 32 - 1) g in
          let h : w < 2 ^ 32 = word_there a w l.0 q in
          masked_follows b w w l.1 h h
          (apply_index inputs nodes are (i / 63) Sub a b within e ∙ ap (λ z. word_sub z (slice_index values b)) (word_index inputs nodes are a w q ∙ v) ∙ less_parts (slice_index values b) (value_word b l.1)
          ∙ ap (λ z. bit_xor (bit_and (slice_index values b) z) z) (sym v))

    marked_follows : (o : Option Node) → slice_get nodes (i / 63) ≡ o → Follows i m s (marked nodes m (i % 63) s o)
    marked_follows None e = tt
    marked_follows (Some Input) e = tt
    marked_follows (Some (Const w)) e = const_follows w e
    marked_follows (Some (Apply Xor a b)) e = xor_follows a b e
    marked_follows (Some (Apply Sub a b)) e = sub_follows a b (word_in nodes a) refl e
    marked_follows (Some (Apply Add a b)) e = with_follows Add a b (word_in nodes b) refl e
    marked_follows (Some (Apply Mul a b)) e = with_follows Mul a b (word_in nodes b) refl e
    marked_follows (Some (Apply MulHigh a b)) e = with_follows MulHigh a b (word_in nodes b) refl e
    marked_follows (Some (Apply MulHighUnsigned a b)) e = with_follows MulHighUnsigned a b (word_in nodes b) refl e
    marked_follows (Some (Apply And a b)) e = with_follows And a b (word_in nodes b) refl e
    marked_follows (Some (Apply Or a b)) e = with_follows Or a b (word_in nodes b) refl e
    marked_follows (Some (Apply Nor a b)) e = with_follows Nor a b (word_in nodes b) refl e
    marked_follows (Some (Apply Less a b)) e = with_follows Less a b (word_in nodes b) refl e
    marked_follows (Some (Apply LessUnsigned a b)) e = with_follows LessUnsigned a b (word_in nodes b) refl e
    marked_follows (Some (Apply ShiftLeft a b)) e = with_follows ShiftLeft a b (word_in nodes b) refl e
    marked_follows (Some (Apply ShiftRight a b)) e = with_follows ShiftRight a b (word_in nodes b) refl e
    marked_follows (Some (Apply ShiftRightSigned a b)) e = with_follows ShiftRightSigned a b (word_in nodes b) refl e

  -- marks that are seen to be nothing have the value 0
  nothing_weighs : (i : ℕ) (s : Marks) → i ≤ length nodes * 63 → i ≤ length s.bits → are_nothing nodes i s ≡ true → weight values s i ≡ 0
  nothing_weighs zero s l k e = eqb-true s.rest 0 e
  nothing_weighs (suc i) s l k e =
      by (slice_index s.bits i == 0) refl e (λ t. nothing_weighs i t (omega (arith, l)))
    where
      then_of : (o : Option Marks) → Follows i (slice_index s.bits i) s o → all_of (are_nothing nodes i) o ≡ true
          → ((t : Marks) → i ≤ length t.bits → are_nothing nodes i t ≡ true → weight values t i ≡ 0) → weight values s (suc i) ≡ 0
      then_of None f g later = absurd (true_false g)
      then_of (Some t) f g later = f.0 ∙ later t (omega (arith, k, f.1)) g

      by : (c : Bool) → (slice_index s.bits i == 0) ≡ c
          → all_of (are_nothing nodes i) (cond c (Some s) (marked nodes (slice_index s.bits i) (i % 63) s (slice_get nodes (i / 63)))) ≡ true
          → ((t : Marks) → i ≤ length t.bits → are_nothing nodes i t ≡ true → weight values t i ≡ 0) → weight values s (suc i) ≡ 0
      by true is g later =
          let v : ℕ = moved (i % 63) (slice_index values (i / 63)) in
          ap (λ x. bit_xor (bit_and x v) (weight values s i)) (eqb-true (slice_index s.bits i) 0 is) ∙ ap (λ x. bit_xor x (weight values s i)) (and_zero_l v)
          ∙ xor_zero_l (weight values s i) ∙ later s (omega (arith, k)) g
      by false is g later =
          then_of (marked nodes (slice_index s.bits i) (i % 63) s (slice_get nodes (i / 63)))
          (marked_follows i (slice_index s.bits i) s (omega (arith, l)) k (slice_get nodes (i / 63)) refl) g later

  none_weighs : (vs : List ℕ) (n i : ℕ) → i ≤ n * 63 → weight vs (no_marks n) i ≡ 0
  none_weighs vs n zero l = refl
  none_weighs vs n (suc i) l =
      let v : ℕ = moved (i % 63) (slice_index vs (i / 63)) in
      ap (λ x. bit_xor (bit_and x v) (weight vs (no_marks n) i)) (get_or-replicate (n * 63) i 0 0 l) ∙ ap (λ x. bit_xor x (weight vs (no_marks n) i)) (and_zero_l v)
      ∙ xor_zero_l (weight vs (no_marks n) i) ∙ none_weighs vs n i (omega (arith, l))

  -- two terms that are seen to be the same exclusive or have one value
  pub same_exclusive_or : (a b : ℕ) → a < length nodes → b < length nodes → is_same_exclusive_or nodes a b ≡ true → slice_index values a ≡ slice_index values b
  same_exclusive_or a b l k all =
      let n : ℕ = many_to a b in
      let e = (both_true (nat_le n (length nodes)) (are_nothing nodes (n * 63) (both n a b)) all).1 in
      let over = many_over inputs nodes are a b in
      let x : ℕ = slice_index values a in
      let y : ℕ = slice_index values b in
      let m : ℕ = 2 ^ 32 - 1 in
      let t : Marks = and_mark m 31 a (no_marks n) in
      let many : length (no_marks n).bits ≡ n * 63 = length-replicate {A = ℕ} (n * 63) 0 in
      let long : length t.bits ≡ n * 63 = at_long m (a * 63 + 31) (no_marks n) ∙ many in
      let whole : length (both n a b).bits ≡ n * 63 = at_long m (b * 63 + 31) t ∙ long in
      let within = many_within inputs nodes are a b l k in
      let one : weight values t (n * 63) ≡ x =
      mark_weighs values (no_marks n) m 31 a (n * 63) (omega arith) (omega (arith, over.0)) (omega (arith, many))
      ∙ ap (λ z. bit_xor z (bit_and m (moved 31 x))) (none_weighs values n (n * 63) (omega arith)) ∙ xor_zero_l (bit_and m (moved 31 x)) ∙ unmoved x (small inputs nodes are a l) in
      let two : weight values (both n a b) (n * 63) ≡ bit_xor x y =
      mark_weighs values t m 31 b (n * 63) (omega arith) (omega (arith, over.1)) (omega (arith, long)) ∙ ap (λ z. bit_xor z (bit_and m (moved 31 y))) one
      ∙ ap (bit_xor x) (unmoved y (small inputs nodes are b k)) in
      same_words x y (sym two ∙ nothing_weighs (n * 63) (both n a b) (omega (arith, within)) (omega (arith, whole)) e)
