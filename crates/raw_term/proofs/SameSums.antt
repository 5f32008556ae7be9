-- Where a difference is seen to be nothing, both terms have one value, under all words for the inputs.
use Rattle.std.proofs.Common.{◌≡◌, ℕ, zero, suc, ◌+◌, ◌-◌, ◌*◌, ◌%◌, ◌^◌, ◌<◌, ◌≤◌, Bool, true, false, cond, List, [], ◌∷◌, length, Option, Some, None, refl, sym, ap, ◌∙◌, subst, inl, inr, ⊎_elim, ◌⊎◌, arith, replicate}
use Rattle.std.specs.Prelude.{slice_get, slice_index, ◌==◌, nat_le, bit_and, bit_xor, bit_or}
use Rattle.std.specs.Int.Bits.{or_zero_r, or_self, xor_add_and}
use Rattle.std.proofs.lemmas.Bool.{eqb-true}
use Rattle.std.proofs.lemmas.Bool.Decides.{nat_tests}
use Rattle.std.proofs.lemmas.Nat.{and_mask, mul-mod_first, mul-mod_second}
use Rattle.std.proofs.lemmas.List.{get_or-set_same, get_or-set_other, length-set, get_or-replicate, length-replicate}
use Rattle.std.proofs.lemmas.Option.{get_or_from_slice_get}
use Rattle.std.proofs.lemmas.Int.{ints}
use Rattle.raw_tile_isa.specs.Words.{word_add, word_sub, word_mul_low, word_shift_left}
use Rattle.raw_flow.specs.declared.node.FlowOp.{FlowOp}
use Rattle.raw_flow.specs.declared.node.FlowOp.TheVariants.{Add, Sub, Mul, MulHigh, MulHighUnsigned, And, Or, Xor, Nor, Less, LessUnsigned, ShiftLeft, ShiftRight, ShiftRightSigned}
use Rattle.raw_flow.specs.declared.node.Node.{Node}
use Rattle.raw_flow.specs.declared.node.Node.TheVariants.{Input, Const, Apply}
use Rattle.raw_flow.specs.Flows.{applied}
use Rattle.raw_term.specs.Terms.{word_of, word_in}
use Rattle.raw_term.proofs.Terms.{true_false, both_true, values_many, Holds, AreTerms, word_holds, apply_holds, term_values}
use Rattle.raw_term.proofs.Moves.{turned}
use Rattle.raw_term.specs.Sums.{Sum, plus_times, plus_rest, plus_complement, times_word, times_power, complement_where, xor_by, complement_by, complement_nor, spread, all_of, is_nothing, no_sum, difference, many_to, is_same_sum}

-- the same modulo 2^32
abbrev pub Alike : ℕ → ℕ → Type 0
Alike x y = x % 2 ^ 32 ≡ y % 2 ^ 32

times_first : (x v w : ℕ) → Alike (x % 2 ^ 32 * v + w) (x * v + w)
times_first x v w = omega (arith, mul-mod_first x v (2 ^ 32))

times_second : (f v : ℕ) → Alike (f * (v % 2 ^ 32)) (f * v)
times_second f v = mul-mod_second f v (2 ^ 32)

-- the word that makes f to 0
minus_back : (f : ℕ) → (word_sub 0 f + f) % 2 ^ 32 ≡ 0
unfolding word_sub
minus_back f = grind (arith, ints)

sub_back : (x y : ℕ) → Alike (word_sub x y + y) x
unfolding word_sub
sub_back x y = grind (arith, ints)

none_times : (g z : ℕ) → g % 2 ^ 32 ≡ 0 → (g * z) % 2 ^ 32 ≡ 0
none_times g z e = sym (mul-mod_first g z (2 ^ 32)) ∙ ap (λ x. x * z % 2 ^ 32) e ∙ omega arith

minus_times : (f z : ℕ) → (word_sub 0 f * z + f * z) % 2 ^ 32 ≡ 0
minus_times f z = let e : (word_sub 0 f + f) * z % 2 ^ 32 ≡ 0 = none_times (word_sub 0 f + f) z (minus_back f) in omega (arith, e)

zero_times : (v w : ℕ) → 0 * v + w ≡ w
zero_times v w = omega arith

-- of a sum of the first i terms: its value
abbrev pub weight : List ℕ → Sum → ℕ → ℕ
weight vs s zero = s.rest
weight vs s (suc i) = slice_index s.factors i * slice_index vs i + weight vs s i

rest_weighs : (vs : List ℕ) (s : Sum) (w i : ℕ) → Alike (weight vs (plus_rest w s) i) (weight vs s i + w)
rest_weighs vs s w zero = omega arith
rest_weighs vs s w (suc i) = let h = rest_weighs vs s w i in omega (arith, h)

other_weighs : (vs : List ℕ) (s : Sum) (f c i : ℕ) → i ≤ c → weight vs (plus_times f c s) i ≡ weight vs s i
other_weighs vs s f c zero l = refl
other_weighs vs s f c (suc i) l =
    let h = other_weighs vs s f c i (omega (arith, l)) in
    let e : slice_index (plus_times f c s).factors i ≡ slice_index s.factors i = get_or-set_other s.factors c i (word_add (slice_index s.factors c) f) 0 (λ q. absurd (omega (arith, l, q))) in
    ap (λ x. x * slice_index vs i + weight vs (plus_times f c s) i) e ∙ ap (λ x. slice_index s.factors i * slice_index vs i + x) h

pub less_or_same : (c i : ℕ) → c < suc i → (c < i) ⊎ (c ≡ i)
less_or_same zero zero l = inr refl
less_or_same zero (suc i) l = inl (omega arith)
less_or_same (suc c) zero l = absurd (omega (arith, l))
less_or_same (suc c) (suc i) l = ⊎_elim (λ h. inl (omega (arith, h))) (λ e. inr (ap suc e)) (less_or_same c i (omega (arith, l)))

times_weighs : (vs : List ℕ) (s : Sum) (f c i : ℕ) → c < i → c < length s.factors → Alike (weight vs (plus_times f c s) i) (weight vs s i + f * slice_index vs c)
times_weighs vs s f c zero l k = absurd (omega (arith, l))
times_weighs vs s f c (suc i) l k = ⊎_elim (λ h. below h (times_weighs vs s f c i h k)) here (less_or_same c i l) where
  below : c < i → Alike (weight vs (plus_times f c s) i) (weight vs s i + f * slice_index vs c) → Alike (weight vs (plus_times f c s) (suc i)) (weight vs s (suc i) + f * slice_index vs c)
  below h more =
      let e : slice_index (plus_times f c s).factors i ≡ slice_index s.factors i = get_or-set_other s.factors c i (word_add (slice_index s.factors c) f) 0 (λ q. absurd (omega (arith, h, q))) in
      ap (λ x. (x * slice_index vs i + weight vs (plus_times f c s) i) % 2 ^ 32) e ∙ omega (arith, more)

  here : c ≡ i → Alike (weight vs (plus_times f c s) (suc i)) (weight vs s (suc i) + f * slice_index vs c)
  here q =
      subst (λ j. Alike (weight vs (plus_times f c s) (suc j)) (weight vs s (suc j) + f * slice_index vs c)) q
      (let e : slice_index (plus_times f c s).factors c ≡ word_add (slice_index s.factors c) f = get_or-set_same s.factors c (word_add (slice_index s.factors c) f) 0 k in
      let u = other_weighs vs s f c c (omega arith) in
      ap (λ x. (x * slice_index vs c + weight vs (plus_times f c s) c) % 2 ^ 32) e
      ∙ ap (λ x. (word_add (slice_index s.factors c) f * slice_index vs c + x) % 2 ^ 32) u
      ∙ times_first (slice_index s.factors c + f) (slice_index vs c) (weight vs s c) ∙ omega arith)

module _ (inputs : List ℕ) (nodes : List Node) (are : AreTerms inputs nodes) where
  abbrev values : List ℕ
  values = term_values inputs nodes

  value_there : (vs : List ℕ) (i : ℕ) → i < length vs → (z : ℕ) × (slice_get vs i ≡ Some z)
  value_there [] i l = absurd (omega arith)
  value_there (z ∷ vs) zero l = (z, refl)
  value_there (z ∷ vs) (suc i) l = value_there vs i (omega arith)

  pub holds_index : (c : ℕ) → c < length nodes → Holds values c (slice_index values c)
  holds_index c l =
      let many = values_many inputs nodes 0 [] in
      let there = value_there values c (omega (arith, l, many)) in
      subst (λ x. Holds values c x) (sym (get_or_from_slice_get values c there.0 0 there.1)) there.1

  pub small : (c : ℕ) → c < length nodes → slice_index values c < 2 ^ 32
  small c l = are.words c (slice_index values c) (holds_index c l)

  -- the value of a term that is an operation
  pub apply_index : (i : ℕ) (op : FlowOp) (a b : ℕ) → i < length nodes → slice_get nodes i ≡ Some (Apply op a b) → slice_index values i ≡ applied op (slice_index values a) (slice_index values b)
  apply_index i op a b l e =
      let before = are.are i (Apply op a b) e in
      get_or_from_slice_get values i (applied op (slice_index values a) (slice_index values b)) 0
      (apply_holds inputs nodes i op a b (slice_index values a) (slice_index values b) are.are e (holds_index a (omega (arith, before.0, l))) (holds_index b (omega (arith, before.1, l))))

  pub word_index : (c w : ℕ) → word_in nodes c ≡ Some w → slice_index values c ≡ w
  word_index c w e = get_or_from_slice_get values c w 0 (word_holds inputs nodes c w e)

  -- a sum with term i, f times, has the value of this one without it
  abbrev pub Follows : ℕ → ℕ → Sum → Option Sum → Type 0
  Follows i f s None = Unit {0}
  Follows i f s (Some t) = Alike (f * slice_index values i + weight values s i) (weight values t i) × (length t.factors ≡ length s.factors)

  module _ (i f : ℕ) (s : Sum) (within : i < length nodes) (long : i < length s.factors) where
    v : ℕ → ℕ
    v c = slice_index values c

    set_long : (g c : ℕ) (t : Sum) → length (plus_times g c t).factors ≡ length t.factors
    set_long g c t = length-set t.factors c (word_add (slice_index t.factors c) g)

    const_follows : (w : ℕ) → slice_get nodes i ≡ Some (Const w) → Follows i f s (spread nodes f s (Some (Const w)))
    unfolding word_mul_low
    const_follows w e =
        let is : slice_index values i ≡ w = word_index i w (ap word_of e) in
        let h = rest_weighs values s (word_mul_low f w) i in
        (ap (λ x. (f * x + weight values s i) % 2 ^ 32) is ∙ omega (arith, h), refl)

    add_follows : (a b : ℕ) → slice_get nodes i ≡ Some (Apply Add a b) → Follows i f s (spread nodes f s (Some (Apply Add a b)))
    add_follows a b e =
        let before = are.are i (Apply Add a b) e in
        let is = apply_index i Add a b within e in
        let one = times_weighs values s f a i before.0 (omega (arith, before.0, long)) in
        let two = times_weighs values (plus_times f a s) f b i before.1 (omega (arith, before.1, long, set_long f a s)) in
        let m = times_second f (slice_index values a + slice_index values b) in
        (ap (λ x. (f * x + weight values s i) % 2 ^ 32) is ∙ omega (arith, m, one, two), set_long f b (plus_times f a s) ∙ set_long f a s)

    sub_follows : (a b : ℕ) → slice_get nodes i ≡ Some (Apply Sub a b) → Follows i f s (spread nodes f s (Some (Apply Sub a b)))
    sub_follows a b e =
        let before = are.are i (Apply Sub a b) e in
        let is = apply_index i Sub a b within e in
        let g : ℕ = word_sub 0 f in
        let one = times_weighs values s f a i before.0 (omega (arith, before.0, long)) in
        let two = times_weighs values (plus_times f a s) g b i before.1 (omega (arith, before.1, long, set_long f a s)) in
        let back : Alike (f * (word_sub (slice_index values a) (slice_index values b) + slice_index values b)) (f * slice_index values a) =
        sym (times_second f (word_sub (slice_index values a) (slice_index values b) + slice_index values b)) ∙ ap (λ x. f * x % 2 ^ 32) (sub_back (slice_index values a) (slice_index values b)) ∙ times_second f (slice_index values a) in
        let none = minus_times f (slice_index values b) in
        (ap (λ x. (f * x + weight values s i) % 2 ^ 32) is ∙ omega (arith, back, none, one, two), set_long g b (plus_times f a s) ∙ set_long f a s)

    mul_follows : (a b : ℕ) (o : Option ℕ) → word_in nodes b ≡ o → slice_get nodes i ≡ Some (Apply Mul a b) → Follows i f s (times_word f a s o)
    unfolding word_mul_low
    mul_follows a b None q e = tt
    mul_follows a b (Some w) q e =
        let before = are.are i (Apply Mul a b) e in
        let is = apply_index i Mul a b within e ∙ ap (λ x. word_mul_low (slice_index values a) x) (word_index b w q) in
        let g : ℕ = word_mul_low f w in
        let one = times_weighs values s g a i before.0 (omega (arith, before.0, long)) in
        let m = times_second f (slice_index values a * w) in
        let n = mul-mod_first (f * w) (slice_index values a) (2 ^ 32) in
        (ap (λ x. (f * x + weight values s i) % 2 ^ 32) is ∙ omega (arith, m, n, one), set_long g a s)

    left_follows : (a b : ℕ) (o : Option ℕ) → word_in nodes b ≡ o → slice_get nodes i ≡ Some (Apply ShiftLeft a b) → Follows i f s (times_power f a s o)
    unfolding word_shift_left
    left_follows a b None q e = tt
    left_follows a b (Some w) q e =
        let before = are.are i (Apply ShiftLeft a b) e in
        let is = apply_index i ShiftLeft a b within e ∙ ap (λ x. word_shift_left (slice_index values a) x) (word_index b w q) in
        let g : ℕ = word_shift_left f w in
        let p : ℕ = 2 ^ (w % 32) in
        let one = times_weighs values s g a i before.0 (omega (arith, before.0, long)) in
        let m = times_second f (slice_index values a * p) in
        let n = mul-mod_first (f * p) (slice_index values a) (2 ^ 32) in
        (ap (λ x. (f * x + weight values s i) % 2 ^ 32) is ∙ omega (arith, m, n, one), set_long g a s)

    -- a complement: with the term it makes -1
    complement_follows : (a : ℕ) → a < i → (slice_index values i + slice_index values a + 1) % 2 ^ 32 ≡ 0 → Follows i f s (Some (plus_complement f a s))
    complement_follows a before all =
        let g : ℕ = word_sub 0 f in
        let one = times_weighs values s g a i before (omega (arith, before, long)) in
        let two = rest_weighs values (plus_times g a s) g i in
        let none : (f * (slice_index values i + slice_index values a + 1)) % 2 ^ 32 ≡ 0 =
        sym (times_second f (slice_index values i + slice_index values a + 1)) ∙ ap (λ x. f * x % 2 ^ 32) all ∙ omega arith in
        let back = minus_times f (slice_index values a + 1) in
        (omega (arith, none, back, one, two), set_long g a s)

    ones_all : (x : ℕ) → x < 2 ^ 32 → (bit_xor x (2 ^ 32 - 1) + x + 1) % 2 ^ 32 ≡ 0
    ones_all x h = let e = xor_add_and x (2 ^ 32 - 1) in let m : bit_and x (2 ^ 32 - 1) ≡ x = and_mask x 32 ∙ omega (arith, h) in omega (arith, e, m, h)

    nor_all : (x : ℕ) → x < 2 ^ 32 → (2 ^ 32 - 1 - bit_or x 0 + x + 1) % 2 ^ 32 ≡ 0
    nor_all x h = ap (λ z. (2 ^ 32 - 1 - z + x + 1) % 2 ^ 32) (or_zero_r x) ∙ omega (arith, h)

    -- with the highest bit turned round
    turned_follows : (a : ℕ) → a < i → slice_index values i ≡ bit_xor (slice_index values a) (2 ^ 31) → Follows i f s (Some (plus_rest (word_mul_low f (2 ^ 31)) (plus_times f a s)))
    unfolding word_mul_low
    turned_follows a before is =
        let x : ℕ = slice_index values a in
        let value : slice_index values i ≡ (x + 2 ^ 31) % 2 ^ 32 = is ∙ sym (turned x (small a (omega (arith, before, within)))) in
        let one = times_weighs values s f a i before (omega (arith, before, long)) in
        let two = rest_weighs values (plus_times f a s) (word_mul_low f (2 ^ 31)) i in
        let m = times_second f (x + 2 ^ 31) in
        (ap (λ z. (f * z + weight values s i) % 2 ^ 32) value ∙ omega (arith, m, one, two), set_long f a s)

    xor_follows : (a b : ℕ) (o : Option ℕ) → word_in nodes b ≡ o → slice_get nodes i ≡ Some (Apply Xor a b) → Follows i f s (xor_by f a s o)
    xor_follows a b None q e = tt
    xor_follows a b (Some w) q e = by (w == 2 ^ 31) (w == 2 ^ 32 - 1) refl refl where
      before : a < i
      before = (are.are i (Apply Xor a b) e).0

      value : slice_index values i ≡ bit_xor (slice_index values a) w
      value = apply_index i Xor a b within e ∙ ap (λ x. bit_xor (slice_index values a) x) (word_index b w q)

      by : (c d : Bool) → (w == 2 ^ 31) ≡ c → (w == 2 ^ 32 - 1) ≡ d → Follows i f s (cond c (Some (plus_rest (word_mul_low f w) (plus_times f a s))) (complement_where d f a s))
      by true d is all =
          let v : w ≡ 2 ^ 31 = eqb-true w (2 ^ 31) is in
          subst (λ n. Follows i f s (Some (plus_rest (word_mul_low f n) (plus_times f a s)))) (sym v) (turned_follows a before (value ∙ ap (bit_xor (slice_index values a)) v))
      by false false is all = tt
      by false true is all =
          complement_follows a before
          (ap (λ x. (x + slice_index values a + 1) % 2 ^ 32) (value ∙ ap (bit_xor (slice_index values a)) (eqb-true w (2 ^ 32 - 1) all)) ∙ ones_all (slice_index values a) (small a (omega (arith, before, within))))

    nor_follows : (a b : ℕ) (o : Option ℕ) → word_in nodes b ≡ o → slice_get nodes i ≡ Some (Apply Nor a b) → Follows i f s (complement_by f a s o)
    nor_follows a b None q e = tt
    nor_follows a b (Some w) q e = by (w == 0) refl where
      by : (c : Bool) → (w == 0) ≡ c → Follows i f s (complement_where c f a s)
      by false is = tt
      by true is =
          let before = are.are i (Apply Nor a b) e in
          let value = apply_index i Nor a b within e ∙ ap (λ x. 2 ^ 32 - 1 - bit_or (slice_index values a) x) (word_index b w q ∙ eqb-true w 0 is) in
          complement_follows a before.0 (ap (λ x. (x + slice_index values a + 1) % 2 ^ 32) value ∙ nor_all (slice_index values a) (small a (omega (arith, before.0, within))))

    nor_itself : (x : ℕ) → x < 2 ^ 32 → (2 ^ 32 - 1 - bit_or x x + x + 1) % 2 ^ 32 ≡ 0
    nor_itself x h = ap (λ z. (2 ^ 32 - 1 - z + x + 1) % 2 ^ 32) (or_self x) ∙ omega (arith, h)

    nor_either : (a b : ℕ) (c : Bool) → (a == b) ≡ c → slice_get nodes i ≡ Some (Apply Nor a b) → Follows i f s (complement_nor c nodes f a b s)
    nor_either a b false is e = nor_follows a b (word_in nodes b) refl e
    nor_either a b true is e =
        let before = are.are i (Apply Nor a b) e in
        let value = apply_index i Nor a b within e ∙ ap (λ (c : ℕ). 2 ^ 32 - 1 - bit_or (slice_index values a) (slice_index values c)) (sym (eqb-true a b is)) in
        complement_follows a before.0 (ap (λ x. (x + slice_index values a + 1) % 2 ^ 32) value ∙ nor_itself (slice_index values a) (small a (omega (arith, before.0, within))))

    spread_follows : (o : Option Node) → slice_get nodes i ≡ o → Follows i f s (spread nodes f s o)
    spread_follows None e = tt
    spread_follows (Some Input) e = tt
    spread_follows (Some (Const w)) e = const_follows w e
    spread_follows (Some (Apply Add a b)) e = add_follows a b e
    spread_follows (Some (Apply Sub a b)) e = sub_follows a b e
    spread_follows (Some (Apply Mul a b)) e = mul_follows a b (word_in nodes b) refl e
    spread_follows (Some (Apply ShiftLeft a b)) e = left_follows a b (word_in nodes b) refl e
    spread_follows (Some (Apply Xor a b)) e = xor_follows a b (word_in nodes b) refl e
    spread_follows (Some (Apply Nor a b)) e = nor_either a b (a == b) refl e
    spread_follows (Some (Apply MulHigh a b)) e = tt
    spread_follows (Some (Apply MulHighUnsigned a b)) e = tt
    spread_follows (Some (Apply And a b)) e = tt
    spread_follows (Some (Apply Or a b)) e = tt
    spread_follows (Some (Apply Less a b)) e = tt
    spread_follows (Some (Apply LessUnsigned a b)) e = tt
    spread_follows (Some (Apply ShiftRight a b)) e = tt
    spread_follows (Some (Apply ShiftRightSigned a b)) e = tt

  -- a sum that is seen to be nothing has the value 0
  nothing_weighs : (i : ℕ) (s : Sum) → i ≤ length nodes → i ≤ length s.factors → is_nothing nodes i s ≡ true → weight values s i % 2 ^ 32 ≡ 0
  nothing_weighs zero s l k e = ap (λ x. x % 2 ^ 32) (eqb-true s.rest 0 e)
  nothing_weighs (suc i) s l k e =
      by (slice_index s.factors i == 0) refl e (λ t. nothing_weighs i t (omega (arith, l)))
    where
      then_of : (o : Option Sum) → Follows i (slice_index s.factors i) s o → all_of (is_nothing nodes i) o ≡ true
          → ((t : Sum) → i ≤ length t.factors → is_nothing nodes i t ≡ true → weight values t i % 2 ^ 32 ≡ 0) → weight values s (suc i) % 2 ^ 32 ≡ 0
      then_of None f g later = absurd (true_false g)
      then_of (Some t) f g later = f.0 ∙ later t (omega (arith, k, f.1)) g

      by : (c : Bool) → (slice_index s.factors i == 0) ≡ c
          → all_of (is_nothing nodes i) (cond c (Some s) (spread nodes (slice_index s.factors i) s (slice_get nodes i))) ≡ true
          → ((t : Sum) → i ≤ length t.factors → is_nothing nodes i t ≡ true → weight values t i % 2 ^ 32 ≡ 0) → weight values s (suc i) % 2 ^ 32 ≡ 0
      by true is g later =
          ap (λ x. (x * slice_index values i + weight values s i) % 2 ^ 32) (eqb-true (slice_index s.factors i) 0 is) ∙ ap (λ x. x % 2 ^ 32) (zero_times (slice_index values i) (weight values s i)) ∙ later s (omega (arith, k)) g
      by false is g later = then_of (spread nodes (slice_index s.factors i) s (slice_get nodes i)) (spread_follows i (slice_index s.factors i) s l k (slice_get nodes i) refl) g later

  none_weighs : (vs : List ℕ) (n i : ℕ) → i ≤ n → weight vs (no_sum n) i ≡ 0
  none_weighs vs n zero l = refl
  none_weighs vs n (suc i) l =
      ap (λ x. x * slice_index vs i + weight vs (no_sum n) i) (get_or-replicate n i 0 0 l) ∙ zero_times (slice_index vs i) (weight vs (no_sum n) i) ∙ none_weighs vs n i (omega (arith, l))

  pub many_over : (a b : ℕ) → (a < many_to a b) × (b < many_to a b)
  many_over a b = by (nat_le a b) refl where
    by : (c : Bool) → nat_le a b ≡ c → (a < cond c (b + 1) (a + 1)) × (b < cond c (b + 1) (a + 1))
    by true e = grind (arith, nat_tests, e)
    by false e = grind (arith, nat_tests, e)

  pub many_within : (a b : ℕ) → a < length nodes → b < length nodes → many_to a b ≤ length nodes
  many_within a b l k = by (nat_le a b) where
    by : (c : Bool) → cond c (b + 1) (a + 1) ≤ length nodes
    by true = omega (arith, k)
    by false = omega (arith, l)

  words_same : (x y : ℕ) → x < 2 ^ 32 → y < 2 ^ 32 → (x + (2 ^ 32 - 1) * y) % 2 ^ 32 ≡ 0 → x ≡ y
  words_same x y h g e = omega (arith, h, g, e)

  -- two terms that are seen to be the same sum have one value
  pub same_sum : (a b : ℕ) → a < length nodes → b < length nodes → is_same_sum nodes a b ≡ true → slice_index values a ≡ slice_index values b
  same_sum a b l k all =
      let e = (both_true (nat_le (many_to a b) (length nodes)) (is_nothing nodes (many_to a b) (difference (many_to a b) a b)) all).1 in
      let n : ℕ = many_to a b in
      let over = many_over a b in
      let one = times_weighs values (no_sum n) 1 a n over.0 (omega (arith, over.0, length-replicate {A = ℕ} n 0)) in
      let long : length (plus_times 1 a (no_sum n)).factors ≡ n = length-set (replicate n 0) a (word_add (slice_index (replicate n 0) a) 1) ∙ length-replicate {A = ℕ} n 0 in
      let two = times_weighs values (plus_times 1 a (no_sum n)) (2 ^ 32 - 1) b n over.1 (omega (arith, over.1, long)) in
      let many : length (difference n a b).factors ≡ n = length-set (plus_times 1 a (no_sum n)).factors b (word_add (slice_index (plus_times 1 a (no_sum n)).factors b) (2 ^ 32 - 1)) ∙ long in
      let none = nothing_weighs n (difference n a b) (many_within a b l k) (omega (arith, many)) e in
      words_same (slice_index values a) (slice_index values b) (are.words a _ (holds_index a l)) (are.words b _ (holds_index b k))
      (omega (arith, one, two, none, none_weighs values n n (omega arith)))
