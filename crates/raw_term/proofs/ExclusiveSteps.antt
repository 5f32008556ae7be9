-- The walk down the marks, from one that stands to the next.
use Rattle.std.proofs.Common.{◌≡◌, ℕ, zero, suc, ◌+◌, ◌*◌, ◌-◌, ◌<◌, ◌≤◌, Bool, true, false, cond, List, take, length, Option, Some, None, unwrap_or, refl, sym, ap, ◌∙◌, subst, ⊎_elim, arith}
use Rattle.std.specs.Prelude.{◌==◌, ◌^◌, ◌/◌, ◌%◌, bit_and, bit_xor, slice_get, slice_index}
use Rattle.std.specs.Option.{option_map}
use Rattle.std.proofs.lemmas.Bool.{cases_lt}
use Rattle.std.proofs.lemmas.List.{get_or-take, get_or_past, length-take, length-take-le}
use Rattle.std.proofs.Math.Nat.{min-le_left}
use Rattle.std.proofs.Math.Seq.{take-length}
use Rattle.raw_tile_isa.specs.Words.{word_shift_left, word_shift_right}
use Rattle.raw_flow.specs.declared.node.FlowOp.{FlowOp}
use Rattle.raw_flow.specs.declared.node.FlowOp.TheVariants.{Add, Sub, Mul, MulHigh, MulHighUnsigned, And, Or, Xor, Nor, Less, LessUnsigned, ShiftLeft, ShiftRight, ShiftRightSigned}
use Rattle.raw_flow.specs.declared.node.Node.{Node}
use Rattle.raw_flow.specs.declared.node.Node.TheVariants.{Input, Const, Apply}
use Rattle.raw_term.specs.Terms.{word_in}
use Rattle.raw_term.specs.Sparse.{AreZeros}
use Rattle.raw_term.specs.Exclusives.{Marks, moved, others, and_at, and_mark, and_word, masked, left, right, right_zeros, signs, by_word, by_word_in, less_from, marked, parted, without, all_of, are_nothing}
use Rattle.raw_term.proofs.ByPlaces.{put_front}

-- the first k places
abbrev pub first : ℕ → Marks → Marks
first k s = record s { bits = take k s.bits }

module _ (k : ℕ) where
  at_first : (m j : ℕ) (s : Marks) → and_at m j (first k s) ≡ first k (and_at m j s)
  at_first m j s = ap (λ xs. record s { bits = xs }) (put_front k j (λ x. bit_xor x m) s.bits)

  masked_first : (m p a mask w : ℕ) (s : Marks) → masked m p a mask w (first k s) ≡ first k (masked m p a mask w s)
  masked_first m p a mask w s = ap (and_word m p w) (at_first (bit_and m (moved p mask)) (a * 63 + p) s)

  left_first : (m p a n : ℕ) (s : Marks) → left m p a n (first k s) ≡ first k (left m p a n s)
  left_first m p a n s = by (bit_and m (moved p (word_shift_left (2 ^ 32 - 1) n)) == 0) where
    by : (c : Bool)
        → cond c (first k s) (and_mark (bit_and m (moved p (word_shift_left (2 ^ 32 - 1) n))) (p + n) a (first k s))
        ≡ first k (cond c s (and_mark (bit_and m (moved p (word_shift_left (2 ^ 32 - 1) n))) (p + n) a s))
    by true = refl
    by false = at_first (bit_and m (moved p (word_shift_left (2 ^ 32 - 1) n))) (a * 63 + (p + n)) s

  right_first : (m p a n mask : ℕ) (s : Marks) → right m p a n mask (first k s) ≡ first k (right m p a n mask s)
  right_first m p a n mask s = by (bit_and m (moved p mask) == 0) where
    by : (c : Bool)
        → cond c (first k s) (and_mark (bit_and m (moved p mask)) (p - n) a (first k s)) ≡ first k (cond c s (and_mark (bit_and m (moved p mask)) (p - n) a s))
    by true = refl
    by false = at_first (bit_and m (moved p mask)) (a * 63 + (p - n)) s

  zeros_first : (m p a n : ℕ) (s : Marks) → right_zeros m p a n (first k s) ≡ first k (right_zeros m p a n s)
  zeros_first m p a n s = right_first m p a n (word_shift_right (2 ^ 32 - 1) n) s

  signs_first : (m p a n : ℕ) (s : Marks) → signs m p a n (first k s) ≡ first k (signs m p a n s)
  signs_first m p a zero s = refl
  signs_first m p a (suc n) s = ap (right m p a n (word_shift_right (2 ^ 31) n)) (signs_first m p a n s) ∙ right_first m p a n (word_shift_right (2 ^ 31) n) (signs m p a n s)

  by_first : (m p : ℕ) (op : FlowOp) (a w : ℕ) (s : Marks) → by_word m p op a w (first k s) ≡ option_map (first k) (by_word m p op a w s)
  by_first m p And a w s = ap Some (masked_first m p a w 0 s)
  by_first m p Or a w s = ap Some (masked_first m p a (others w) w s)
  by_first m p Nor a w s = ap Some (masked_first m p a (others w) (others w) s)
  by_first m p Add a w s = by (w == 2 ^ 31) where
    by : (c : Bool) → cond c (Some (masked m p a (2 ^ 32 - 1) w (first k s))) None ≡ option_map (first k) (cond c (Some (masked m p a (2 ^ 32 - 1) w s)) None)
    by true = ap Some (masked_first m p a (2 ^ 32 - 1) w s)
    by false = refl
  by_first m p ShiftLeft a w s = ap Some (left_first m p a (w % 32) s)
  by_first m p ShiftRight a w s = ap Some (zeros_first m p a (w % 32) s)
  by_first m p ShiftRightSigned a w s =
      ap (λ t. Some (signs m p a (w % 32) t)) (zeros_first m p a (w % 32) s) ∙ ap Some (signs_first m p a (w % 32) (right_zeros m p a (w % 32) s))
  by_first m p Sub a w s = refl
  by_first m p Mul a w s = refl
  by_first m p MulHigh a w s = refl
  by_first m p MulHighUnsigned a w s = refl
  by_first m p Xor a w s = refl
  by_first m p Less a w s = refl
  by_first m p LessUnsigned a w s = refl

  in_first : (m p : ℕ) (op : FlowOp) (a : ℕ) (s : Marks) (o : Option ℕ) → by_word_in m p op a (first k s) o ≡ option_map (first k) (by_word_in m p op a s o)
  in_first m p op a s None = refl
  in_first m p op a s (Some w) = by_first m p op a w s

  less_first : (m p b : ℕ) (s : Marks) (o : Option ℕ) → less_from m p b (first k s) o ≡ option_map (first k) (less_from m p b s o)
  less_first m p b s None = refl
  less_first m p b s (Some w) = by (w == 2 ^ 32 - 1) where
    by : (c : Bool) → cond c (Some (masked m p b w w (first k s))) None ≡ option_map (first k) (cond c (Some (masked m p b w w s)) None)
    by true = ap Some (masked_first m p b w w s)
    by false = refl

  marked_first : (nodes : List Node) (m p : ℕ) (s : Marks) (o : Option Node) → marked nodes m p (first k s) o ≡ option_map (first k) (marked nodes m p s o)
  marked_first nodes m p s None = refl
  marked_first nodes m p s (Some Input) = refl
  marked_first nodes m p s (Some (Const w)) = refl
  marked_first nodes m p s (Some (Apply Xor a b)) = ap (λ t. Some (and_mark m p b t)) (at_first m (a * 63 + p) s) ∙ ap Some (at_first m (b * 63 + p) (and_mark m p a s))
  marked_first nodes m p s (Some (Apply Sub a b)) = less_first m p b s (word_in nodes a)
  marked_first nodes m p s (Some (Apply Add a b)) = in_first m p Add a s (word_in nodes b)
  marked_first nodes m p s (Some (Apply Mul a b)) = in_first m p Mul a s (word_in nodes b)
  marked_first nodes m p s (Some (Apply MulHigh a b)) = in_first m p MulHigh a s (word_in nodes b)
  marked_first nodes m p s (Some (Apply MulHighUnsigned a b)) = in_first m p MulHighUnsigned a s (word_in nodes b)
  marked_first nodes m p s (Some (Apply And a b)) = in_first m p And a s (word_in nodes b)
  marked_first nodes m p s (Some (Apply Or a b)) = in_first m p Or a s (word_in nodes b)
  marked_first nodes m p s (Some (Apply Nor a b)) = in_first m p Nor a s (word_in nodes b)
  marked_first nodes m p s (Some (Apply Less a b)) = in_first m p Less a s (word_in nodes b)
  marked_first nodes m p s (Some (Apply LessUnsigned a b)) = in_first m p LessUnsigned a s (word_in nodes b)
  marked_first nodes m p s (Some (Apply ShiftLeft a b)) = in_first m p ShiftLeft a s (word_in nodes b)
  marked_first nodes m p s (Some (Apply ShiftRight a b)) = in_first m p ShiftRight a s (word_in nodes b)
  marked_first nodes m p s (Some (Apply ShiftRightSigned a b)) = in_first m p ShiftRightSigned a s (word_in nodes b)

  parted_first : (nodes : List Node) (m : ℕ) (s : Marks) (i : ℕ) → parted nodes m (first k s) i ≡ option_map (first k) (parted nodes m s i)
  parted_first nodes m s i = by (m == 0) where
    by : (c : Bool)
        → cond c (Some (first k s)) (marked nodes m (i % 63) (first k s) (slice_get nodes (i / 63))) ≡ option_map (first k) (cond c (Some s) (marked nodes m (i % 63) s (slice_get nodes (i / 63))))
    by true = refl
    by false = marked_first nodes m (i % 63) s (slice_get nodes (i / 63))

  -- a walk from place i on sees no places behind it
  walk_first : (nodes : List Node) (i : ℕ) (s : Marks) → i ≤ k → are_nothing nodes i (first k s) ≡ are_nothing nodes i s
  walk_first nodes zero s l = refl
  walk_first nodes (suc i) s l =
      ap (λ m. all_of (are_nothing nodes i) (parted nodes m (first k s) i)) (get_or-take k s.bits i 0 (omega (arith, l)))
      ∙ ap (all_of (are_nothing nodes i)) (parted_first nodes (slice_index s.bits i) s i)
      ∙ then_of (without nodes s i) (λ t. walk_first nodes i t (omega (arith, l)))
    where
      then_of : (o : Option Marks) → ((t : Marks) → are_nothing nodes i (first k t) ≡ are_nothing nodes i t) → all_of (are_nothing nodes i) (option_map (first k) o) ≡ all_of (are_nothing nodes i) o
      then_of None later = refl
      then_of (Some t) later = later t

-- places with no mark are passed
pub passed : (nodes : List Node) (n i : ℕ) (s : Marks) → i ≤ n → AreZeros i s.bits → are_nothing nodes n s ≡ are_nothing nodes i s
passed nodes zero i s l none = ap (λ j. are_nothing nodes j s) (let e : zero ≡ i = omega (arith, l) in e)
passed nodes (suc n) i s l none =
    ⊎_elim
    (λ (h : n < i). ap (λ j. are_nothing nodes j s) (let e : suc n ≡ i = omega (arith, l, h) in e))
    (λ (h : i ≤ n). ap (λ m. all_of (are_nothing nodes n) (parted nodes m s n)) (none n h) ∙ passed nodes n i s h none)
    (cases_lt n i)

-- what stands last gives way to its parts
last_parted : (nodes : List Node) (s : Marks) (i : ℕ) → i < length s.bits → AreZeros (i + 1) s.bits
    → are_nothing nodes (length s.bits) s ≡ all_of (are_nothing nodes i) (parted nodes (slice_index s.bits i) (first i s) i)
last_parted nodes s i l none =
    passed nodes (length s.bits) (suc i) s (omega (arith, l)) (λ j h. none j (omega (arith, h))) ∙ front (without nodes s i)
    ∙ ap (all_of (are_nothing nodes i)) (sym (parted_first i nodes (slice_index s.bits i) s i))
  where
    front : (o : Option Marks) → all_of (are_nothing nodes i) o ≡ all_of (are_nothing nodes i) (option_map (first i) o)
    front None = refl
    front (Some t) = sym (walk_first i nodes i t (omega arith))

-- a step of the walk, from what stands last in s to what it answers
pub step : (nodes : List Node) (s t : Marks) (i x : ℕ) (o : Option Marks) (same : Bool) → are_nothing nodes (length s.bits) s ≡ same → i < length s.bits → x ≡ slice_index s.bits i → AreZeros (i + 1) s.bits
    → t ≡ first i s → parted nodes x t i ≡ o → all_of (are_nothing nodes i) o ≡ same
step nodes s t i x o same e l is none cut answers =
    ap (all_of (are_nothing nodes i)) (sym answers ∙ ap (λ y. parted nodes y t i) is ∙ ap (λ z. parted nodes (slice_index s.bits i) z i) cut) ∙ sym (last_parted nodes s i l none) ∙ e

-- what gives way leaves no more places than there were
pub no_longer : (nodes : List Node) (m : ℕ) (s t : Marks) (i : ℕ) → parted nodes m s i ≡ Some t → length t.bits ≤ length s.bits
no_longer nodes m s t i e =
    let k = length s.bits in
    let whole : first k s ≡ s = ap (λ xs. record s { bits = xs }) (take-length s.bits) in
    let same : length t.bits ≡ length (take k t.bits) =
    ap (λ (o : Option Marks). length (unwrap_or o s).bits) (sym e ∙ ap (λ u. parted nodes m u i) (sym whole) ∙ parted_first k nodes m s i ∙ ap (option_map (first k)) e) in
    subst (λ n. n ≤ k) (sym (same ∙ length-take k t.bits)) (min-le_left k (length t.bits))

-- a step that leaves marks: they are walked from their own end
pub walked : (nodes : List Node) (s t u : Marks) (i x : ℕ) (same : Bool) → are_nothing nodes (length s.bits) s ≡ same → i < length s.bits → x ≡ slice_index s.bits i → AreZeros (i + 1) s.bits
    → t ≡ first i s → parted nodes x t i ≡ Some u → (are_nothing nodes (length u.bits) u ≡ same) × (length u.bits ≤ i)
walked nodes s t u i x same e l is none cut answers =
    let few : length u.bits ≤ i = omega (arith, no_longer nodes x t u i answers, ap (λ (v : Marks). length v.bits) cut, length-take-le i s.bits (omega (arith, l))) in
    (sym (passed nodes i (length u.bits) u few (λ j past. get_or_past u.bits j 0 past)) ∙ step nodes s t i x (Some u) same e l is none cut answers, few)
