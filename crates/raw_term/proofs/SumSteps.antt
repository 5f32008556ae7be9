-- The walk down a table, from one term that stands in a sum to the next.
use Rattle.std.proofs.Common.{◌≡◌, ℕ, zero, suc, ◌+◌, ◌<◌, ◌≤◌, Bool, true, false, cond, List, take, length, Option, Some, None, refl, sym, ap, ◌∙◌, ⊎_elim, arith}
use Rattle.std.specs.Prelude.{◌==◌, ◌^◌, ◌-◌, slice_get, slice_index}
use Rattle.std.specs.Option.{option_map}
use Rattle.std.proofs.lemmas.Bool.{cases_lt}
use Rattle.std.proofs.lemmas.List.{get_or-take}
use Rattle.raw_tile_isa.specs.Words.{word_add, word_sub, word_mul_low, word_shift_left}
use Rattle.raw_flow.specs.declared.node.FlowOp.TheVariants.{Add, Sub, Mul, MulHigh, MulHighUnsigned, And, Or, Xor, Nor, Less, LessUnsigned, ShiftLeft, ShiftRight, ShiftRightSigned}
use Rattle.raw_flow.specs.declared.node.Node.{Node}
use Rattle.raw_flow.specs.declared.node.Node.TheVariants.{Input, Const, Apply}
use Rattle.raw_term.specs.Terms.{word_in}
use Rattle.raw_term.specs.Sparse.{AreZeros}
use Rattle.raw_term.specs.Sums.{Sum, plus_times, plus_rest, times_word, times_power, complement_where, xor_by, complement_by, complement_nor, spread, parted, without, all_of, is_nothing}
use Rattle.raw_term.proofs.ByPlaces.{put_front}

-- the first k terms of a sum
abbrev pub first : ℕ → Sum → Sum
first k s = record s { factors = take k s.factors }

module _ (k : ℕ) where
  times_first : (f c : ℕ) (s : Sum) → plus_times f c (first k s) ≡ first k (plus_times f c s)
  times_first f c s = ap (λ xs. record s { factors = xs }) (put_front k c (λ x. word_add x f) s.factors)

  word_first : (f a : ℕ) (s : Sum) (o : Option ℕ) → times_word f a (first k s) o ≡ option_map (first k) (times_word f a s o)
  word_first f a s None = refl
  word_first f a s (Some w) = ap Some (times_first (word_mul_low f w) a s)

  power_first : (f a : ℕ) (s : Sum) (o : Option ℕ) → times_power f a (first k s) o ≡ option_map (first k) (times_power f a s o)
  power_first f a s None = refl
  power_first f a s (Some w) = ap Some (times_first (word_shift_left f w) a s)

  complement_first : (c : Bool) (f a : ℕ) (s : Sum) → complement_where c f a (first k s) ≡ option_map (first k) (complement_where c f a s)
  complement_first true f a s = ap (λ t. Some (plus_rest (word_sub 0 f) t)) (times_first (word_sub 0 f) a s)
  complement_first false f a s = refl

  xor_first : (f a : ℕ) (s : Sum) (o : Option ℕ) → xor_by f a (first k s) o ≡ option_map (first k) (xor_by f a s o)
  xor_first f a s None = refl
  xor_first f a s (Some w) = by (w == 2 ^ 31) where
    by : (c : Bool)
        → cond c (Some (plus_rest (word_mul_low f w) (plus_times f a (first k s)))) (complement_where (w == 2 ^ 32 - 1) f a (first k s))
        ≡ option_map (first k) (cond c (Some (plus_rest (word_mul_low f w) (plus_times f a s))) (complement_where (w == 2 ^ 32 - 1) f a s))
    by true = ap (λ t. Some (plus_rest (word_mul_low f w) t)) (times_first f a s)
    by false = complement_first (w == 2 ^ 32 - 1) f a s

  by_first : (f a : ℕ) (s : Sum) (o : Option ℕ) → complement_by f a (first k s) o ≡ option_map (first k) (complement_by f a s o)
  by_first f a s None = refl
  by_first f a s (Some w) = complement_first (w == 0) f a s

  nor_first : (c : Bool) (nodes : List Node) (f a b : ℕ) (s : Sum) → complement_nor c nodes f a b (first k s) ≡ option_map (first k) (complement_nor c nodes f a b s)
  nor_first true nodes f a b s = complement_first true f a s
  nor_first false nodes f a b s = by_first f a s (word_in nodes b)

  spread_first : (nodes : List Node) (f : ℕ) (s : Sum) (o : Option Node) → spread nodes f (first k s) o ≡ option_map (first k) (spread nodes f s o)
  spread_first nodes f s None = refl
  spread_first nodes f s (Some Input) = refl
  spread_first nodes f s (Some (Const w)) = refl
  spread_first nodes f s (Some (Apply Add a b)) = ap (λ t. Some (plus_times f b t)) (times_first f a s) ∙ ap Some (times_first f b (plus_times f a s))
  spread_first nodes f s (Some (Apply Sub a b)) = ap (λ t. Some (plus_times (word_sub 0 f) b t)) (times_first f a s) ∙ ap Some (times_first (word_sub 0 f) b (plus_times f a s))
  spread_first nodes f s (Some (Apply Mul a b)) = word_first f a s (word_in nodes b)
  spread_first nodes f s (Some (Apply ShiftLeft a b)) = power_first f a s (word_in nodes b)
  spread_first nodes f s (Some (Apply Xor a b)) = xor_first f a s (word_in nodes b)
  spread_first nodes f s (Some (Apply Nor a b)) = nor_first (a == b) nodes f a b s
  spread_first nodes f s (Some (Apply MulHigh a b)) = refl
  spread_first nodes f s (Some (Apply MulHighUnsigned a b)) = refl
  spread_first nodes f s (Some (Apply And a b)) = refl
  spread_first nodes f s (Some (Apply Or a b)) = refl
  spread_first nodes f s (Some (Apply Less a b)) = refl
  spread_first nodes f s (Some (Apply LessUnsigned a b)) = refl
  spread_first nodes f s (Some (Apply ShiftRight a b)) = refl
  spread_first nodes f s (Some (Apply ShiftRightSigned a b)) = refl

  parted_first : (nodes : List Node) (f : ℕ) (s : Sum) (i : ℕ) → parted nodes f (first k s) i ≡ option_map (first k) (parted nodes f s i)
  parted_first nodes f s i = by (f == 0) where
    by : (c : Bool) → cond c (Some (first k s)) (spread nodes f (first k s) (slice_get nodes i)) ≡ option_map (first k) (cond c (Some s) (spread nodes f s (slice_get nodes i)))
    by true = refl
    by false = spread_first nodes f s (slice_get nodes i)

  -- a walk from term i on sees no terms behind it
  walk_first : (nodes : List Node) (i : ℕ) (s : Sum) → i ≤ k → is_nothing nodes i (first k s) ≡ is_nothing nodes i s
  walk_first nodes zero s l = refl
  walk_first nodes (suc i) s l =
      ap (λ f. all_of (is_nothing nodes i) (parted nodes f (first k s) i)) (get_or-take k s.factors i 0 (omega (arith, l)))
      ∙ ap (all_of (is_nothing nodes i)) (parted_first nodes (slice_index s.factors i) s i)
      ∙ then_of (without nodes s i) (λ t. walk_first nodes i t (omega (arith, l)))
    where
      then_of : (o : Option Sum) → ((t : Sum) → is_nothing nodes i (first k t) ≡ is_nothing nodes i t) → all_of (is_nothing nodes i) (option_map (first k) o) ≡ all_of (is_nothing nodes i) o
      then_of None later = refl
      then_of (Some t) later = later t

-- terms that stand no time in a sum are passed
pub passed : (nodes : List Node) (n i : ℕ) (s : Sum) → i ≤ n → AreZeros i s.factors → is_nothing nodes n s ≡ is_nothing nodes i s
passed nodes zero i s l none = ap (λ j. is_nothing nodes j s) (let e : zero ≡ i = omega (arith, l) in e)
passed nodes (suc n) i s l none =
    ⊎_elim
    (λ (h : n < i). ap (λ j. is_nothing nodes j s) (let e : suc n ≡ i = omega (arith, l, h) in e))
    (λ (h : i ≤ n). ap (λ f. all_of (is_nothing nodes n) (parted nodes f s n)) (none n h) ∙ passed nodes n i s h none)
    (cases_lt n i)

-- what stands last gives way to its parts
last_parted : (nodes : List Node) (s : Sum) (i : ℕ) → i < length s.factors → AreZeros (i + 1) s.factors
    → is_nothing nodes (length s.factors) s ≡ all_of (is_nothing nodes i) (parted nodes (slice_index s.factors i) (first i s) i)
last_parted nodes s i l none =
    passed nodes (length s.factors) (suc i) s (omega (arith, l)) (λ j h. none j (omega (arith, h))) ∙ front (without nodes s i)
    ∙ ap (all_of (is_nothing nodes i)) (sym (parted_first i nodes (slice_index s.factors i) s i))
  where
    front : (o : Option Sum) → all_of (is_nothing nodes i) o ≡ all_of (is_nothing nodes i) (option_map (first i) o)
    front None = refl
    front (Some t) = sym (walk_first i nodes i t (omega arith))

-- a step of the walk, from what stands last in s to what it answers
pub step : (nodes : List Node) (s t : Sum) (i x : ℕ) (o : Option Sum) (same : Bool) → is_nothing nodes (length s.factors) s ≡ same → i < length s.factors → x ≡ slice_index s.factors i → AreZeros (i + 1) s.factors
    → t ≡ first i s → parted nodes x t i ≡ o → all_of (is_nothing nodes i) o ≡ same
step nodes s t i x o same e l is none cut answers =
    ap (all_of (is_nothing nodes i)) (sym answers ∙ ap (λ y. parted nodes y t i) is ∙ ap (λ z. parted nodes (slice_index s.factors i) z i) cut) ∙ sym (last_parted nodes s i l none) ∙ e
