-- Counts of words by port, and lists that are made port by port.
use Rattle.std.proofs.Common.{◌≡◌, ℕ, zero, suc, ◌+◌, ◌*◌, ◌<◌, Bool, true, false, not, cond, List, [], ◌∷◌, ◌++◌, length, drop, get_or, Some, None, refl, sym, ap, ◌∙◌, subst, arith, length-append}
use Rattle.std.specs.Prelude.{◌==◌, ◌||◌, slice_get, slice_index, sum_by}
use Rattle.std.specs.List.{All, find, flat_map, list_any, range_with_len}
use Rattle.std.proofs.Math.Nat.{suc-mul}
use Rattle.std.proofs.lemmas.Bool.{eqb-true}
use Rattle.std.proofs.lemmas.List.{length-map, nil_from_length}
use Rattle.std.proofs.lemmas.List.Sums.{sum_by-cons}
use Rattle.raw_model.specs.Program.{PortProgram}
use Rattle.raw_model.specs.Machine.{words_of}
use Rattle.raw_stream.specs.Streams.{Stream, valued, due_at, due_to}
use Rattle.raw_stream.specs.Unrolled.{width, first}
use Rattle.raw_term.proofs.Terms.{none_some}

-- a test that no number passes
pub find_none : (f : ℕ → Bool) (k n : ℕ) → find f (range_with_len k n) ≡ None → (i : ℕ) → i < n → f (k + i) ≡ false
find_none f k zero e i lt = absurd (omega (arith, lt))
find_none f k (suc n) e i lt = by (f k) refl e (λ g j below. find_none f (k + 1) n g j below) i lt where
  by : (b : Bool) → f k ≡ b → cond b (Some k) (find f (range_with_len (k + 1) n)) ≡ None → (find f (range_with_len (k + 1) n) ≡ None → (j : ℕ) → j < n → f (k + 1 + j) ≡ false)
      → (i : ℕ) → i < suc n → f (k + i) ≡ false
  by true is g later i lt = none_some k (sym g)
  by false is g later zero lt = let same : k + 0 ≡ k = omega arith in ap f same ∙ is
  by false is g later (suc i) lt = let same : k + suc i ≡ k + 1 + i = omega arith in ap f same ∙ later g i (omega (arith, lt))

pub same_count : (a b : ℕ) → not (a == b) ≡ false → a ≡ b
same_count a b e = by (a == b) refl e where
  by : (c : Bool) → (a == b) ≡ c → not c ≡ false → a ≡ b
  by true is f = eqb-true a b is
  by false is f = cc f

-- where each port has as many words as all rows take, all ports have as many as the unrolled flow has inputs
pub words_summed : (s : Stream) (ports : List PortProgram) (k : ℕ) → ((i : ℕ) → i < length ports → length (words_of (slice_get ports i)) ≡ s.count * width s (k + i))
    → first s (k + length ports) ≡ first s k + sum_by (λ (port : PortProgram). length port.words) ports
words_summed s [] k h = let same : k + 0 ≡ k = omega arith in ap (first s) same ∙ omega arith
words_summed s (port ∷ ports) k h =
    let next : k + suc (length ports) ≡ k + 1 + length ports = omega arith in
    let one : k + 1 ≡ suc k = omega arith in
    let here : k + 0 ≡ k = omega arith in
    let own : length port.words ≡ s.count * width s k = h 0 (omega arith) ∙ ap (λ j. s.count * width s j) here in
    let rest : first s (k + 1 + length ports) ≡ first s (k + 1) + sum_by (λ (p : PortProgram). length p.words) ports =
    words_summed s ports (k + 1) (λ i lt. later i lt) in
    let step : first s (k + 1) ≡ first s k + s.count * width s k = ap (first s) one in
    ap (first s) next ∙ omega (arith, rest, step, own, sum_by-cons (λ (p : PortProgram). length p.words) port ports)
  where
    later : (i : ℕ) → i < length ports → length (words_of (slice_get ports i)) ≡ s.count * width s (k + 1 + i)
    later i lt = let same : k + suc i ≡ k + 1 + i = omega arith in h (suc i) (omega (arith, lt)) ∙ ap (λ j. s.count * width s j) same

-- how many values a port is due
pub due_long : (s : Stream) (q : ℕ) (values : List (List ℕ)) → length (due_to s q values) ≡ length values * length (due_at s q)
due_long s q [] = omega arith
due_long s q (row ∷ values) =
    length-append (valued row (due_at s q)) (due_to s q values)
    ∙ omega (arith, length-map (due_at s q) (slice_index row), due_long s q values, suc-mul (length values) (length (due_at s q)))

-- two lists of pieces that are as long, one by one
pub record AreApart (xs ys us vs : List ℕ) : Type 0 where
  pub fronts : xs ≡ ys
  pub rests : us ≡ vs

apart : (xs ys us vs : List ℕ) → length xs ≡ length ys → xs ++ us ≡ ys ++ vs → AreApart xs ys us vs
apart [] [] us vs long e = record { fronts = refl; rests = e }
apart [] (y ∷ ys) us vs long e = cc long
apart (x ∷ xs) [] us vs long e = cc long
apart (x ∷ xs) (y ∷ ys) us vs long e =
    let more : AreApart xs ys us vs = apart xs ys us vs (cc long) (ap (drop 1) e) in
    record { fronts = ap (λ z. z ∷ xs) (ap (λ zs. get_or zs 0 0) e) ∙ ap (λ zs. y ∷ zs) more.fronts; rests = more.rests }

pub same_pieces : (f g : ℕ → List ℕ) (n : ℕ) (order : List ℕ) → All (λ q. q < n) order → ((q : ℕ) → q < n → length (f q) ≡ length (g q)) → flat_map f order ≡ flat_map g order
    → (q : ℕ) → list_any (λ p. p == q) order ≡ true → f q ≡ g q
same_pieces f g n [] within long e q any = cc any
same_pieces f g n (p ∷ order) within long e q any =
    let parts : AreApart (f p) (g p) (flat_map f order) (flat_map g order) = apart (f p) (g p) (flat_map f order) (flat_map g order) (long p (within 0 0 (omega arith))) e in
    by parts.fronts (p == q) refl any (λ some. same_pieces f g n order (λ k d lt. within (suc k) d (omega (arith, lt))) long parts.rests q some)
  where
    by : f p ≡ g p → (b : Bool) → (p == q) ≡ b → (b || list_any (λ p. p == q) order) ≡ true → (list_any (λ p. p == q) order ≡ true → f q ≡ g q) → f q ≡ g q
    by here true is some later = subst (λ j. f j ≡ g j) (eqb-true p q is) here
    by here false is some later = later some

pub pieces_long : (f g : ℕ → List ℕ) (n : ℕ) (order : List ℕ) → All (λ q. q < n) order → ((q : ℕ) → q < n → length (f q) ≡ length (g q)) → length (flat_map f order) ≡ length (flat_map g order)
pieces_long f g n [] within long = refl
pieces_long f g n (q ∷ order) within long =
    let one : length (f q) ≡ length (g q) = long q (within 0 0 (omega arith)) in
    let rest : length (flat_map f order) ≡ length (flat_map g order) = pieces_long f g n order (λ k d lt. within (suc k) d (omega (arith, lt))) long in
    length-append (f q) (flat_map f order) ∙ omega (arith, one, rest, length-append (g q) (flat_map g order))

-- ports of which each is due nothing, or stands in the order
pub each_same : (s : Stream) (values : List (List ℕ)) (got : ℕ → List ℕ) (order : List ℕ) → All (λ q. q < length s.sinks) order → ((q : ℕ) → list_any (λ p. p == q) order ≡ false → due_at s q ≡ [])
    → ((q : ℕ) → q < length s.sinks → length (got q) ≡ length (due_to s q values)) → flat_map got order ≡ flat_map (λ q. due_to s q values) order
    → (q : ℕ) → q < length s.sinks → got q ≡ due_to s q values
each_same s values got order within others long e q lt = by (list_any (λ p. p == q) order) refl where
  nothing : due_at s q ≡ [] → length (due_to s q values) ≡ 0
  nothing f = due_long s q values ∙ ap (λ ns. length values * length ns) f ∙ omega arith

  by : (b : Bool) → list_any (λ p. p == q) order ≡ b → got q ≡ due_to s q values
  by true is = same_pieces got (λ p. due_to s p values) (length s.sinks) order within long e q is
  by false is =
      let none : length (due_to s q values) ≡ 0 = nothing (others q is) in
      nil_from_length (got q) (long q lt ∙ none) ∙ sym (nil_from_length (due_to s q values) none)

-- pieces that are the same one by one
pub pieces_same : (f g : ℕ → List ℕ) (k n : ℕ) → ((i : ℕ) → i < n → f (k + i) ≡ g (k + i)) → flat_map f (range_with_len k n) ≡ flat_map g (range_with_len k n)
pieces_same f g k zero same = refl
pieces_same f g k (suc n) same =
    let here : k + 0 ≡ k = omega arith in
    let own : f k ≡ g k = subst (λ j. f j ≡ g j) here (same 0 (omega arith)) in
    ap (λ xs. xs ++ flat_map f (range_with_len (k + 1) n)) own ∙ ap (λ xs. g k ++ xs) (pieces_same f g (k + 1) n later)
  where
    later : (i : ℕ) → i < n → f (k + 1 + i) ≡ g (k + 1 + i)
    later i lt = let same' : k + suc i ≡ k + 1 + i = omega arith in subst (λ j. f j ≡ g j) same' (same (suc i) (omega (arith, lt)))
