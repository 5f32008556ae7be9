-- How many words rows take and give.
use Rattle.std.proofs.Common.{◌≡◌, ℕ, zero, suc, ◌+◌, ◌<◌, ◌≤◌, Bool, true, false, cond, eqb, List, [], ◌∷◌, ◌++◌, length, get_or, take, Some, None, refl, ap, ◌∙◌, arith}
use Rattle.std.specs.Prelude.{sum_by}
use Rattle.std.specs.List.{filter_map, cons_option, list_any, range_with_len}
use Rattle.std.proofs.lemmas.List.{length-append, take_more}
use Rattle.std.proofs.lemmas.List.Elements.{filter_map-append}
use Rattle.std.proofs.lemmas.List.Folds.{list_any-append, list_any_at}
use Rattle.std.proofs.lemmas.List.FromFn.{length-range_with_len, get_or-range_with_len}
use Rattle.std.proofs.lemmas.List.Sums.{sum_by_push}
use Rattle.raw_stream.specs.declared.out.StreamOut.{StreamOut}
use Rattle.raw_stream.specs.Streams.{due_of}
use Rattle.raw_stream.specs.Kept.{gives}

-- ---- outs one by one
one_due : (b : Bool) (v : ℕ) → length (cons_option (cond b (Some v) None) []) ≡ cond b 1 0
one_due true v = refl
one_due false v = refl

pub due_more : (q : ℕ) (outs : List StreamOut) (i : ℕ) (d : StreamOut) → i < length outs
    → length (filter_map (due_of q) (take (i + 1) outs)) ≡ length (filter_map (due_of q) (take i outs)) + gives q (get_or outs i d)
due_more q outs i d lt =
    let out = get_or outs i d in
    ap (λ xs. length (filter_map (due_of q) xs)) (take_more outs i d lt)
    ∙ ap length (filter_map-append (due_of q) (take i outs) (out ∷ []))
    ∙ length-append (filter_map (due_of q) (take i outs)) (filter_map (due_of q) (out ∷ []))
    ∙ ap (λ n. length (filter_map (due_of q) (take i outs)) + n) (one_due (eqb out.port q) out.node)

-- ---- numbers up to one
pub range_push : (a n : ℕ) → range_with_len a (n + 1) ≡ range_with_len a n ++ (a + n) ∷ []
range_push a zero = ap (λ k. k ∷ []) (omega arith)
range_push a (suc n) =
    let more : suc n + 1 ≡ suc (n + 1) = omega arith in
    let last : (a + 1) + n ≡ a + suc n = omega arith in
    ap (range_with_len a) more ∙ ap (λ ks. a ∷ ks) (range_push (a + 1) n ∙ ap (λ k. range_with_len (a + 1) n ++ k ∷ []) last)

pub none_more : (p : ℕ → Bool) (n : ℕ) → list_any p (range_with_len 0 n) ≡ false → p n ≡ false → list_any p (range_with_len 0 (n + 1)) ≡ false
none_more p n before here =
    let same : 0 + n ≡ n = omega arith in
    let last : p (0 + n) ≡ false = ap p same ∙ here in
    ap (list_any p) (range_push 0 n) ∙ list_any-append p (range_with_len 0 n) ((0 + n) ∷ []) ∙ rw (before, last) refl

pub some_one : (p : ℕ → Bool) (n q : ℕ) → q < n → p q ≡ true → list_any p (range_with_len 0 n) ≡ true
some_one p n q lt here =
    let at : get_or (range_with_len 0 n) q 0 ≡ q = get_or-range_with_len 0 n q 0 lt ∙ omega arith in
    list_any_at p (range_with_len 0 n) q 0 (omega (arith, lt, length-range_with_len 0 n)) (ap p at ∙ here)

pub sum_more : (f : ℕ → ℕ) (n : ℕ) → sum_by f (range_with_len 0 (n + 1)) ≡ sum_by f (range_with_len 0 n) + f n
sum_more f n =
    let same : 0 + n ≡ n = omega arith in
    ap (sum_by f) (range_push 0 n) ∙ sum_by_push f (range_with_len 0 n) (0 + n) ∙ ap (λ k. sum_by f (range_with_len 0 n) + f k) same

pub sums_grow : (f : ℕ → ℕ) (m k : ℕ) → sum_by f (range_with_len 0 m) ≤ sum_by f (range_with_len 0 (m + k))
sums_grow f m zero = let same : m + 0 ≡ m = omega arith in rw same (omega arith)
sums_grow f m (suc k) =
    let next : m + suc k ≡ (m + k) + 1 = omega arith in
    let before = sums_grow f m k in
    let more = sum_more f (m + k) in
    rw next (omega (arith, before, more))
