-- What the sinks of the flow that a stream is are due, sink by sink, and where the ports of a stream stand.
use Rattle.std.proofs.Common.{◌≡◌, ℕ, zero, suc, ◌+◌, ◌*◌, ◌<◌, ◌≤◌, Bool, true, false, cond, eqb, List, [], ◌∷◌, ◌++◌, length, map, replicate, Some, None, refl, sym, ap, ◌∙◌, ⊎_elim, arith}
use Rattle.std.specs.Prelude.{slice_index, sum_by}
use Rattle.std.specs.List.{All, flat_map, filter_map, cons_option, range_with_len}
use Rattle.std.proofs.lemmas.Bool.{cases_eq, eq-eqb, ne_eqb}
use Rattle.std.proofs.lemmas.List.{append-nil, length-append, length-map, length-replicate}
use Rattle.std.proofs.lemmas.List.Elements.{All-nil, All-cons, All-head, All-tail, All-append}
use Rattle.std.proofs.lemmas.List.FromFn.{length-map-range_with_len}
use Rattle.std.proofs.lemmas.List.Sums.{sum_by-cons}
use Rattle.std.proofs.Math.Nat.{mul-le-mul_right}
use Rattle.raw_model.specs.declared.limits.TheConstants.{MAX_ALL_CAPACITIES}
use Rattle.raw_flow.specs.Ports.{picked}
use Rattle.raw_flow.proofs.Picked.{picked_none, ones, some_ones}
use Rattle.raw_stream.specs.declared.out.StreamOut.{StreamOut}
use Rattle.raw_stream.specs.Streams.{Stream, IsOut, due_of, valued, rows_of, due_at, due_to, first_words, carried_after}
use Rattle.raw_stream.specs.Unrolled.{width, first, row_words, all_rows, place, due_places, all_due, unrolled}
use Rattle.raw_stream.specs.Kept.{IsStream, due_count}
use Rattle.raw_unroll.specs.Compiled.{in_turn}
use Rattle.raw_unroll.proofs.Dues.{range_more}

-- ---- numbers in turn, from one on
abbrev pub turns : (ℕ → ℕ) → ℕ → ℕ → List ℕ
turns counts a n = flat_map (λ q. replicate (counts q) q) (range_with_len a n)

module _ {X : Type 0} (q p : ℕ) where
  -- where a port has the first of a list
  own_block : (xs ys : List X) (ports : List ℕ) → p ≡ q → picked q (replicate (length xs) p ++ ports) (xs ++ ys) ≡ xs ++ picked q ports ys
  own_block [] ys ports e = refl
  own_block (x ∷ xs) ys ports e =
      let rest : List X = picked q (replicate (length xs) p ++ ports) (xs ++ ys) in
      ap (λ b. cond b (x ∷ rest) rest) (eq-eqb p q e) ∙ ap (λ zs. x ∷ zs) (own_block xs ys ports e)

  other_block : (xs ys : List X) (ports : List ℕ) → (p ≡ q → ⊥) → picked q (replicate (length xs) p ++ ports) (xs ++ ys) ≡ picked q ports ys
  other_block [] ys ports ne = refl
  other_block (x ∷ xs) ys ports ne =
      let rest : List X = picked q (replicate (length xs) p ++ ports) (xs ++ ys) in
      ap (λ b. cond b (x ∷ rest) rest) (ne_eqb p q ne) ∙ other_block xs ys ports ne

module _ {X : Type 0} (f : ℕ → List X) (counts : ℕ → ℕ) (each : (p : ℕ) → counts p ≡ length (f p)) (q : ℕ) where
  -- of lists one behind the other, each of a port of its own, a port has its own list
  split : (a n : ℕ) → picked q (turns counts a (suc n)) (flat_map f (range_with_len a (suc n))) ≡ picked q (replicate (length (f a)) a ++ turns counts (a + 1) n) (f a ++ flat_map f (range_with_len (a + 1) n))
  split a n = ap (λ m. picked q (replicate m a ++ turns counts (a + 1) n) (f a ++ flat_map f (range_with_len (a + 1) n))) (each a)

  none_there : (a n : ℕ) → q < a → picked q (turns counts a n) (flat_map f (range_with_len a n)) ≡ []
  none_there a zero less = picked_none q []
  none_there a (suc n) less =
      split a n
      ∙ other_block q a (f a) (flat_map f (range_with_len (a + 1) n)) (turns counts (a + 1) n) (λ e. omega (arith, e, less))
      ∙ none_there (a + 1) n (omega arith)

  pub turn_of : (a n : ℕ) → a ≤ q → q < a + n → picked q (turns counts a n) (flat_map f (range_with_len a n)) ≡ f q
  turn_of a zero low high = absurd (omega (arith, low, high))
  turn_of a (suc n) low high =
      split a n
      ∙ ⊎_elim (λ (e : a ≡ q). own_block q a (f a) (flat_map f (range_with_len (a + 1) n)) (turns counts (a + 1) n) e ∙ ap (λ ys. f a ++ ys) (none_there (a + 1) n (omega (arith, e))) ∙ append-nil (f a) ∙ ap f e)
      (λ (ne : a ≡ q → ⊥). other_block q a (f a) (flat_map f (range_with_len (a + 1) n)) (turns counts (a + 1) n) ne ∙ turn_of (a + 1) n (omega (arith, ne)) (omega arith)) (cases_eq a q)

below_all : (n p m : ℕ) → p < n → All (λ q. q < n) (replicate m p)
below_all n p zero h = All-nil (λ q. q < n)
below_all n p (suc m) h = All-cons (λ q. q < n) p (replicate m p) h (below_all n p m h)

pub turns_below : (counts : ℕ → ℕ) (m a n : ℕ) → a + n ≤ m → All (λ q. q < m) (turns counts a n)
turns_below counts m a zero h = All-nil (λ q. q < m)
turns_below counts m a (suc n) h =
    All-append (λ q. q < m) (replicate (counts a) a) (turns counts (a + 1) n) (below_all m a (counts a) (omega (arith, h))) (turns_below counts m (a + 1) n (omega (arith, h)))

-- lists of the same lengths are together as long
pub same_long : {X Y : Type 0} (f : ℕ → List X) (g : ℕ → List Y) (ns : List ℕ) → ((q : ℕ) → length (f q) ≡ length (g q)) → length (flat_map f ns) ≡ length (flat_map g ns)
same_long f g [] each = refl
same_long f g (n ∷ ns) each =
    omega (arith, length-append (f n) (flat_map f ns), length-append (g n) (flat_map g ns), each n, same_long f g ns each)

-- ---- how much the sinks are due
due_long : (s : Stream) (q : ℕ) (values : List (List ℕ)) → length (due_to s q values) ≡ length values * length (due_at s q)
due_long s q [] = omega arith
due_long s q (row ∷ values) =
    let more : length (row ∷ values) * length (due_at s q) ≡ length (due_at s q) + length values * length (due_at s q) = grind arith in
    let here : length (valued row (due_at s q)) ≡ length (due_at s q) = length-map (due_at s q) (slice_index row) in
    omega (arith, length-append (valued row (due_at s q)) (due_to s q values), here, more, due_long s q values)

places_long : (s : Stream) (q m r : ℕ) → length (flat_map (λ k. map (place s k) (due_at s q)) (range_with_len r m)) ≡ m * length (due_at s q)
places_long s q zero r = omega arith
places_long s q (suc m) r =
    let more : suc m * length (due_at s q) ≡ length (due_at s q) + m * length (due_at s q) = grind arith in
    let here : length (map (place s r) (due_at s q)) ≡ length (due_at s q) = length-map (due_at s q) (place s r) in
    omega (arith, length-append (map (place s r) (due_at s q)) (flat_map (λ k. map (place s k) (due_at s q)) (range_with_len (r + 1) m)), here, more, places_long s q m (r + 1))

rows_long : (s : Stream) (carried : List ℕ) (rows : List (List ℕ)) → length (rows_of s carried rows) ≡ length rows
rows_long s carried [] = refl
rows_long s carried (words ∷ rows) = ap suc (rows_long s (carried_after s carried words) rows)

pub all_rows_long : (s : Stream) (words : List ℕ) → length (all_rows s words) ≡ s.count
all_rows_long s words = rows_long s (first_words s) (map (row_words s words) (range_with_len 0 s.count)) ∙ length-map-range_with_len (row_words s words) 0 s.count

-- of what all sinks are due each sink gets its own
pub each_own : (s : Stream) (words : List ℕ) (q : ℕ) → q < length s.sinks → picked q (in_turn (due_count s) (length s.sinks)) (all_due s (all_rows s words)) ≡ due_to s q (all_rows s words)
each_own s words q h =
    turn_of (λ p. due_to s p (all_rows s words)) (due_count s)
    (λ p. ap (λ n. n * length (due_at s p)) (sym (all_rows_long s words)) ∙ sym (due_long s p (all_rows s words))) q 0 (length s.sinks) (omega arith) (omega arith)

pub goes_long : (s : Stream) → length (in_turn (due_count s) (length s.sinks)) ≡ length (unrolled s).outs
goes_long s =
    same_long (λ q. replicate (due_count s q) q) (due_places s) (range_with_len 0 (length s.sinks))
    (λ q. length-replicate (due_count s q) q ∙ sym (places_long s q s.count 0))

pub comes_long : (s : Stream) (n : ℕ) → length (in_turn (λ q. s.count * width s q) n) ≡ first s n
comes_long s zero = refl
comes_long s (suc n) =
    let more : suc n ≡ n + 1 = omega arith in
    let front : List ℕ = in_turn (λ q. s.count * width s q) n in
    let last : List ℕ = replicate (s.count * width s n) n in
    ap (λ k. length (in_turn (λ q. s.count * width s q) k)) more
    ∙ ap length (range_more (λ q. replicate (s.count * width s q) q) n)
    ∙ length-append front last
    ∙ ap (λ k. k + length last) (comes_long s n) ∙ ap (λ k. first s n + k) (length-replicate (s.count * width s n) n)

-- ---- there are no more outs in a row than the sinks are due in all
abbrev dues : List StreamOut → ℕ → ℕ → ℕ
dues outs a n = sum_by (λ q. length (filter_map (due_of q) outs)) (range_with_len a n)

one_due : (b : Bool) (v : ℕ) (vs : List ℕ) → length (cons_option (cond b (Some v) None) vs) ≡ cond b 1 0 + length vs
one_due true v vs = omega arith
one_due false v vs = omega arith

dues_cons : (out : StreamOut) (outs : List StreamOut) (a n : ℕ) → dues (out ∷ outs) a n ≡ ones out.port a n + dues outs a n
dues_cons out outs a zero = refl
dues_cons out outs a (suc n) =
    omega (
      arith,
      sum_by-cons (λ q. length (filter_map (due_of q) (out ∷ outs))) a (range_with_len (a + 1) n),
      sum_by-cons (λ q. cond (eqb out.port q) 1 0) a (range_with_len (a + 1) n),
      sum_by-cons (λ q. length (filter_map (due_of q) outs)) a (range_with_len (a + 1) n),
      one_due (eqb out.port a) out.node (filter_map (due_of a) outs),
      dues_cons out outs (a + 1) n,
    )

few_dues : (sinks nodes : ℕ) (outs : List StreamOut) → All (IsOut sinks nodes) outs → length outs ≤ dues outs 0 sinks
few_dues sinks nodes [] are = omega arith
few_dues sinks nodes (out ∷ outs) are =
    let named : IsOut sinks nodes out = All-head (IsOut sinks nodes) out outs are in
    omega (arith, dues_cons out outs 0 sinks, some_ones out.port 0 sinks (omega arith) (omega (arith, named.port)), few_dues sinks nodes outs (All-tail (IsOut sinks nodes) out outs are))

more_due : (s : Stream) → 1 ≤ s.count → (a n : ℕ) → dues s.outs a n ≤ sum_by (due_count s) (range_with_len a n)
more_due s some a zero = omega arith
more_due s some a (suc n) =
    let d : ℕ = length (due_at s a) in
    let here : 1 * d ≤ s.count * d = mul-le-mul_right d some in
    let one : 1 * d ≡ d = grind arith in
    omega (
      arith,
      sum_by-cons (λ q. length (filter_map (due_of q) s.outs)) a (range_with_len (a + 1) n),
      sum_by-cons (due_count s) a (range_with_len (a + 1) n),
      here,
      one,
      more_due s some (a + 1) n,
    )

pub outs_few : (s : Stream) → IsStream s → length s.outs ≤ MAX_ALL_CAPACITIES
outs_few s is = omega (arith, few_dues (length s.sinks) (length s.nodes) s.outs is.named.outs, more_due s is.some_rows 0 (length s.sinks), is.few_due_in_all)
