-- The unrolled flow has an input for each word, and its outs are nodes of it.
use Rattle.std.proofs.Common.{◌≡◌, ℕ, zero, suc, ◌+◌, ◌*◌, ◌<◌, ◌≤◌, Bool, true, false, cond, eqb, List, [], ◌∷◌, ◌++◌, length, get_or, map, replicate, Some, None, refl, ◌∙◌, arith}
use Rattle.std.specs.Prelude.{All}
use Rattle.std.specs.List.{flat_map, range_with_len, filter_map, cons_option}
use Rattle.std.proofs.lemmas.Nat.{mul-add-lt}
use Rattle.std.proofs.lemmas.List.{length-append, length-map}
use Rattle.std.proofs.lemmas.List.Elements.{All-nil, All-append, All-map}
use Rattle.raw_flow.specs.declared.node.Node.{Node}
use Rattle.raw_flow.specs.declared.node.Node.TheVariants as flow_node
use Rattle.raw_flow.specs.Flows.{inputs_in}
use Rattle.raw_stream.specs.declared.out.StreamOut.{StreamOut}
use Rattle.raw_stream.specs.declared.row_node.RowNode.{RowNode}
use Rattle.raw_stream.specs.declared.row_node.RowNode.TheVariants.{Input, Const, Apply, Pre}
use Rattle.raw_stream.specs.Streams.{Stream, AreNamed, IsOut, due_of, due_at}
use Rattle.raw_stream.specs.Unrolled.{word_count, place, node_at, row_nodes, due_places, unrolled, IsLawful}
use Rattle.raw_stream.proofs.Places.{many_inputs, place_below, are_nodes}

-- ---- inputs
inputs_both : (xs ys : List Node) → inputs_in (xs ++ ys) ≡ inputs_in xs + inputs_in ys
inputs_both [] ys = omega arith
inputs_both (flow_node.Input ∷ xs) ys = omega (arith, inputs_both xs ys)
inputs_both (flow_node.Const word ∷ xs) ys = inputs_both xs ys
inputs_both (flow_node.Apply op a b ∷ xs) ys = inputs_both xs ys

as_many : (n : ℕ) → inputs_in (replicate n flow_node.Input) ≡ n
as_many zero = refl
as_many (suc n) = omega (arith, as_many n)

row_takes_none : (s : Stream) (r : ℕ) (nodes : List RowNode) → inputs_in (map (node_at s r) nodes) ≡ 0
row_takes_none s r [] = refl
row_takes_none s r (Input q ∷ nodes) = row_takes_none s r nodes
row_takes_none s r (Const word ∷ nodes) = row_takes_none s r nodes
row_takes_none s r (Apply op a b ∷ nodes) = row_takes_none s r nodes
row_takes_none s r (Pre a word ∷ nodes) = row_takes_none s r nodes

rows_take_none : (s : Stream) (rs : List ℕ) → inputs_in (flat_map (row_nodes s) rs) ≡ 0
rows_take_none s [] = refl
rows_take_none s (r ∷ rs) =
    let one : inputs_in (row_nodes s r) ≡ 0 = row_takes_none s r s.nodes in
    let rest = rows_take_none s rs in
    inputs_both (row_nodes s r) (flat_map (row_nodes s) rs) ∙ omega (arith, one, rest)

unrolled_inputs : (s : Stream) → inputs_in (unrolled s).nodes ≡ word_count s
unrolled_inputs s =
    let n : ℕ = word_count s in
    let rows : List Node = flat_map (row_nodes s) (range_with_len 0 s.count) in
    let none : inputs_in rows ≡ 0 = rows_take_none s (range_with_len 0 s.count) in
    let all : inputs_in (replicate n flow_node.Input) ≡ n = as_many n in
    inputs_both (replicate n flow_node.Input) rows ∙ omega (arith, none, all)

-- ---- the outs of a sink are nodes of a row
known_more : (n v : ℕ) (b : Bool) (nodes : List ℕ) → v < n → All (λ u. u < n) nodes → All (λ u. u < n) (cons_option (cond b (Some v) None) nodes)
known_more n v true nodes low rest zero d within = low
known_more n v true nodes low rest (suc k) d within = rest k d (omega (arith, within))
known_more n v false nodes low rest k d within = rest k d within

all_known : (sinks n q : ℕ) (outs : List StreamOut) → All (IsOut sinks n) outs → All (λ u. u < n) (filter_map (due_of q) outs)
all_known sinks n q [] are = All-nil (λ u. u < n)
all_known sinks n q (out ∷ outs) are =
    known_more n out.node (eqb out.port q) (filter_map (due_of q) outs) (are 0 out (omega arith)).node (all_known sinks n q outs (λ k d within. are (suc k) d (omega (arith, within))))

pub due_known : (s : Stream) → AreNamed s → (q : ℕ) → All (λ u. u < length s.nodes) (due_at s q)
due_known s named q = all_known (length s.sinks) (length s.nodes) q s.outs named.outs

-- ---- and are found in the unrolled flow
pub rows_long : (s : Stream) (m r : ℕ) → length (flat_map (row_nodes s) (range_with_len r m)) ≡ m * length s.nodes
rows_long s zero r = omega arith
rows_long s (suc m) r =
    let long : length (row_nodes s r) ≡ length s.nodes = length-map s.nodes (node_at s r) in
    let more : suc m * length s.nodes ≡ length s.nodes + m * length s.nodes = grind arith in
    let rest = rows_long s m (r + 1) in
    length-append (row_nodes s r) (flat_map (row_nodes s) (range_with_len (r + 1) m)) ∙ omega (arith, long, more, rest)

pub unrolled_long : (s : Stream) → length (unrolled s).nodes ≡ word_count s + s.count * length s.nodes
unrolled_long s =
    let n : ℕ = word_count s in
    let rows : List Node = flat_map (row_nodes s) (range_with_len 0 s.count) in
    let long : length rows ≡ s.count * length s.nodes = rows_long s s.count 0 in
    let inputs : length (replicate n flow_node.Input) ≡ n = many_inputs n in
    length-append (replicate n flow_node.Input) rows ∙ omega (arith, long, inputs)

module _ (s : Stream) (named : AreNamed s) where
  abbrev IsThere : ℕ → Type 0
  IsThere v = v < length (unrolled s).nodes

  place_there : (r v : ℕ) → r < s.count → v < length s.nodes → IsThere (place s r v)
  place_there r v row within =
      let low = place_below s named r v row within in
      let inside = mul-add-lt r (length s.nodes) v s.count row within in
      let turned : length s.nodes * s.count ≡ s.count * length s.nodes = grind arith in
      let long = unrolled_long s in
      omega (arith, low, inside, turned, long)

  rows_there : (nodes : List ℕ) → All (λ v. v < length s.nodes) nodes → (m r : ℕ) → r + m ≤ s.count → All IsThere (flat_map (λ k. map (place s k) nodes) (range_with_len r m))
  rows_there nodes known zero r within = All-nil IsThere
  rows_there nodes known (suc m) r within =
      All-append IsThere (map (place s r) nodes) (flat_map (λ k. map (place s k) nodes) (range_with_len (r + 1) m))
      (All-map IsThere (place s r) nodes (λ k d low. place_there r (get_or nodes k d) (omega (arith, within)) (known k d low)))
      (rows_there nodes known m (r + 1) (omega (arith, within)))

  sinks_there : (qs : List ℕ) → All IsThere (flat_map (due_places s) qs)
  sinks_there [] = All-nil IsThere
  sinks_there (q ∷ qs) =
      All-append IsThere (due_places s q) (flat_map (due_places s) qs) (rows_there (due_at s q) (due_known s named q) s.count 0 (omega arith)) (sinks_there qs)

  pub unrolled_lawful : IsLawful s
  unrolled_lawful = record { nodes = are_nodes s named; inputs = unrolled_inputs s; outs = sinks_there (range_with_len 0 (length s.sinks)) }
