-- The outs of the flow that a stream is.
use Rattle.std.proofs.Common.{◌≡◌, ◌≢◌, ℕ, zero, suc, ◌+◌, ◌<◌, ◌≤◌, Bool, true, false, eqb, List, [], ◌∷◌, ◌++◌, length, get_or, map, take, Option, Some, None, refl, sym, ap, ◌∙◌, subst, arith}
use Rattle.std.specs.Option.{option_to_list}
use Rattle.std.specs.List.{flat_map, filter_map, cons_option, range_with_len}
use Rattle.std.proofs.lemmas.Bool.{eq-eqb, eqb-true, eqb-false}
use Rattle.std.proofs.lemmas.List.{length-append, length-map, map-append, flat_map_more, take_more}
use Rattle.std.proofs.lemmas.List.Elements.{filter_map-append}
use Rattle.raw_stream.specs.declared.out.StreamOut.{StreamOut}
use Rattle.raw_stream.specs.Streams.{Stream, IsOut, due_of, due_at}
use Rattle.raw_stream.specs.Unrolled.{place, due_places, unrolled}
use Rattle.raw_stream.specs.Kept.{IsStream}
use Rattle.raw_stream.proofs.Sums.{range_push}

some_due : (o : Option ℕ) → cons_option o [] ≡ option_to_list o
some_due None = refl
some_due (Some v) = refl

-- an out more
pub out_more : (f : ℕ → ℕ) (q : ℕ) (outs : List StreamOut) (i : ℕ) (d : StreamOut) → i < length outs
    → map f (filter_map (due_of q) (take (i + 1) outs)) ≡ map f (filter_map (due_of q) (take i outs)) ++ map f (option_to_list (due_of q (get_or outs i d)))
out_more f q outs i d within =
    let out : StreamOut = get_or outs i d in
    ap (λ xs. map f (filter_map (due_of q) xs)) (take_more outs i d within)
    ∙ ap (map f) (filter_map-append (due_of q) (take i outs) (out ∷ []) ∙ ap (λ xs. filter_map (due_of q) (take i outs) ++ xs) (some_due (due_of q out)))
    ∙ map-append f (filter_map (due_of q) (take i outs)) (option_to_list (due_of q out))

-- a number more
pub range_more : {X : Type 0} (f : ℕ → List X) (n : ℕ) → flat_map f (range_with_len 0 (n + 1)) ≡ flat_map f (range_with_len 0 n) ++ f n
range_more f n =
    let same : 0 + n ≡ n = omega arith in
    ap (flat_map f) (range_push 0 n) ∙ sym (flat_map_more f [] (range_with_len 0 n) (0 + n)) ∙ ap (λ k. flat_map f (range_with_len 0 n) ++ f k) same

-- ---- there is an out
some_in : {X : Type 0} (f : ℕ → List X) (m r q : ℕ) → r ≤ q → q < r + m → 1 ≤ length (f q) → 1 ≤ length (flat_map f (range_with_len r m))
some_in f zero r q low high some = absurd (omega (arith, low, high))
some_in f (suc m) r q low high some = by (eqb r q) refl (λ above. some_in f m (r + 1) q above (omega (arith, high)) some) where
  by : (b : Bool) → eqb r q ≡ b → (r + 1 ≤ q → 1 ≤ length (flat_map f (range_with_len (r + 1) m))) → 1 ≤ length (f r ++ flat_map f (range_with_len (r + 1) m))
  by true same rest =
      let here : 1 ≤ length (f r) = subst (λ k. 1 ≤ length (f k)) (sym (eqb-true r q same)) some in
      omega (arith, here, length-append (f r) (flat_map f (range_with_len (r + 1) m)))
  by false other rest =
      let apart : r ≢ q = eqb-false r q other in
      let there = rest (omega (arith, low, apart)) in
      omega (arith, there, length-append (f r) (flat_map f (range_with_len (r + 1) m)))

first_due : (out : StreamOut) (outs : List StreamOut) → 1 ≤ length (filter_map (due_of out.port) (out ∷ outs))
first_due out outs = rw (eq-eqb out.port out.port refl) (omega arith)

pub some_out : (s : Stream) → IsStream s → 1 ≤ length (unrolled s).outs
some_out s is = by s.outs refl is.some_out where
  by : (outs : List StreamOut) → s.outs ≡ outs → 1 ≤ length outs → 1 ≤ length (unrolled s).outs
  by [] e some = absurd (omega (arith, some))
  by (out ∷ outs) e some =
      let named : IsOut (length s.sinks) (length s.nodes) out = subst (λ (xs : List StreamOut). IsOut (length s.sinks) (length s.nodes) (get_or xs 0 out)) e (is.named.outs 0 out (omega (arith, is.some_out))) in
      let due : 1 ≤ length (due_at s out.port) = subst (λ (xs : List StreamOut). 1 ≤ length (filter_map (due_of out.port) xs)) (sym e) (first_due out outs) in
      let placed : 1 ≤ length (map (place s 0) (due_at s out.port)) = omega (arith, due, length-map (due_at s out.port) (place s 0)) in
      let in_rows : 1 ≤ length (due_places s out.port) = some_in (λ r. map (place s r) (due_at s out.port)) s.count 0 0 (omega arith) (omega (arith, is.some_rows)) placed in
      some_in (due_places s) (length s.sinks) 0 out.port (omega arith) (omega (arith, named.port)) in_rows
