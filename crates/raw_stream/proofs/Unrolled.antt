-- The unrolled flow computes what the rows compute.
use Rattle.std.proofs.Common.{◌≡◌, ℕ, zero, suc, ◌+◌, ◌<◌, ◌≤◌, List, [], ◌∷◌, ◌++◌, length, get_or, map, take, Option, Some, None, refl, sym, ap, ◌∙◌, subst, arith}
use Rattle.std.specs.Prelude.{slice_get, slice_index, option_map, All}
use Rattle.std.specs.List.{flat_map, range_with_len}
use Rattle.std.proofs.lemmas.List.{map-append}
use Rattle.std.proofs.lemmas.Option.{none-some, same_Some, slice_get-map, slice_get-get_or}
use Rattle.raw_flow.specs.declared.node.FlowOp.{FlowOp}
use Rattle.raw_flow.specs.declared.node.Node.{Node}
use Rattle.raw_flow.specs.declared.node.Node.TheVariants as flow_node
use Rattle.raw_flow.specs.Flows.{Dataflow, IsNode, AreNodes, inputs_in, applied, values_of, outs_of}
use Rattle.raw_stream.specs.declared.row_node.RowNode.{RowNode}
use Rattle.raw_stream.specs.declared.row_node.RowNode.TheVariants.{Input, Const, Apply, Pre}
use Rattle.raw_stream.specs.Streams.{Stream, AreNamed, plain, plain_nodes, taken, row_of, valued, rows_of, due_at, due_to}
use Rattle.raw_stream.specs.Unrolled.{word_count, word_place, row_words, all_rows, own, first_place, later_place, place, node_at, due_places, all_due, unrolled}
use Rattle.raw_stream.proofs.Lists.{map_pieces}
use Rattle.raw_stream.proofs.Places.{word_within, place_input, place_const, place_apply, are_nodes, node_there, input_there, inputs_before}
use Rattle.raw_stream.proofs.Within.{due_known}
use Rattle.raw_stream.proofs.Taken.{pres, pres_first, pres_next, taken_pre, taken_word}

-- the values of nodes by their kinds, as flows have them
pub record EachValue : Type 0 where
  pub input : (flow : Dataflow) (inputs : List ℕ) (v : ℕ) → slice_get flow.nodes v ≡ Some flow_node.Input → slice_index (values_of flow inputs) v ≡ slice_index inputs (inputs_in (take v flow.nodes))
  pub constant : (flow : Dataflow) (inputs : List ℕ) (v word : ℕ) → slice_get flow.nodes v ≡ Some (flow_node.Const word) → slice_index (values_of flow inputs) v ≡ word
  pub operation : (flow : Dataflow) (inputs : List ℕ) (v : ℕ) (op : FlowOp) (a b : ℕ) → AreNodes flow.nodes → slice_get flow.nodes v ≡ Some (flow_node.Apply op a b)
      → slice_index (values_of flow inputs) v ≡ applied op (slice_index (values_of flow inputs) a) (slice_index (values_of flow inputs) b)

-- a row as a flow
abbrev row_flow : Stream → Dataflow
row_flow s = record { cols = 1; rows = 1; nodes = plain_nodes s; outs = [] }

row_values : (s : Stream) (carried words : List ℕ) → values_of (row_flow s) (taken s.nodes carried words) ≡ row_of s carried words
unfolding values_of
row_values s carried words = refl

plain_get : (s : Stream) (v : ℕ) (n : RowNode) → slice_get s.nodes v ≡ Some n → slice_get (plain_nodes s) v ≡ Some (plain n)
plain_get s v n e = slice_get-map plain s.nodes v ∙ ap (option_map plain) e

pub are_plain : (s : Stream) → AreNamed s → AreNodes (plain_nodes s)
are_plain s named v node e = by (slice_get s.nodes v) refl where
  as_plain : (n : RowNode) → slice_get s.nodes v ≡ Some n → IsNode v (plain n)
  as_plain (Input q) f = tt
  as_plain (Const word) f = named.nodes v (Const word) f
  as_plain (Apply op a b) f = named.nodes v (Apply op a b) f
  as_plain (Pre a word) f = tt

  by : (o : Option RowNode) → slice_get s.nodes v ≡ o → IsNode v node
  by None f = absurd (none-some node (sym (slice_get-map plain s.nodes v ∙ ap (option_map plain) f) ∙ e))
  by (Some n) f = subst (IsNode v) (same_Some (plain n) node (sym (plain_get s v n f) ∙ e)) (as_plain n f)

module _ (each : EachValue) (s : Stream) (named : AreNamed s) (all : List ℕ) where
  abbrev whole : List ℕ
  whole = values_of (unrolled s) all

  -- the value at a node's own place
  own_const : (r v word : ℕ) → r < s.count → slice_get s.nodes v ≡ Some (Const word) → slice_index whole (own s r v) ≡ word
  own_const r v word row e = each.constant (unrolled s) all (own s r v) word (node_there s named r v (Const word) row e)

  own_pre : (r v a word : ℕ) → r < s.count → slice_get s.nodes v ≡ Some (Pre a word) → slice_index whole (own s r v) ≡ word
  own_pre r v a word row e = each.constant (unrolled s) all (own s r v) word (node_there s named r v (Pre a word) row e)

  own_apply : (r v : ℕ) (op : FlowOp) (a b : ℕ) → r < s.count → slice_get s.nodes v ≡ Some (Apply op a b)
      → slice_index whole (own s r v) ≡ applied op (slice_index whole (place s r a)) (slice_index whole (place s r b))
  own_apply r v op a b row e = each.operation (unrolled s) all (own s r v) op (place s r a) (place s r b) (are_nodes s named) (node_there s named r v (Apply op a b) row e)

  word_there : (r q v : ℕ) → r < s.count → slice_get s.nodes v ≡ Some (Input q) → slice_index whole (word_place s r q v) ≡ slice_index all (word_place s r q v)
  word_there r q v row e =
      let rest : List Node = flat_map (λ k. map (node_at s k) s.nodes) (range_with_len 0 s.count) in
      let inside = word_within s named r q v row e in
      each.input (unrolled s) all (word_place s r q v) (input_there (word_count s) (word_place s r q v) rest inside)
      ∙ ap (slice_index all) (inputs_before (word_count s) (word_place s r q v) rest inside)

  -- what is carried into a row is found where the values of its `Pre` nodes are
  abbrev IsCarried : ℕ → (ℕ → ℕ → ℕ) → Type 0
  IsCarried r g = (v a word : ℕ) → slice_get s.nodes v ≡ Some (Pre a word) → slice_index whole (place s r v) ≡ g a word

  module _ (r : ℕ) (row : r < s.count) (g : ℕ → ℕ → ℕ) (carried : IsCarried r g) where
    abbrev ins : List ℕ
    ins = taken s.nodes (pres g s.nodes) (row_words s all r)

    abbrev here : List ℕ
    here = values_of (row_flow s) ins

    -- the value of a node of the row, where those before it are found
    node_found : (v : ℕ) (n : RowNode) → slice_get s.nodes v ≡ Some n → ((u : ℕ) → u < v → slice_index whole (place s r u) ≡ slice_index here u) → slice_index whole (place s r v) ≡ slice_index here v
    node_found v (Input q) e before =
        ap (slice_index whole) (place_input s named r q v e) ∙ word_there r q v row e
        ∙ sym (each.input (row_flow s) ins v (plain_get s v (Input q) e) ∙ taken_word s all r s.nodes (pres g s.nodes) 0 v q v e (omega arith))
    node_found v (Const word) e before =
        ap (slice_index whole) (place_const s named r word v e) ∙ own_const r v word row e ∙ sym (each.constant (row_flow s) ins v word (plain_get s v (Const word) e))
    node_found v (Apply op a b) e before =
        let below = named.nodes v (Apply op a b) e in
        ap (slice_index whole) (place_apply s named r v op a b e) ∙ own_apply r v op a b row e
        ∙ ap (λ x. applied op x (slice_index whole (place s r b))) (before a below.0) ∙ ap (λ y. applied op (slice_index here a) y) (before b below.1)
        ∙ sym (each.operation (row_flow s) ins v op a b (are_plain s named) (plain_get s v (Apply op a b) e))
    node_found v (Pre a word) e before =
        carried v a word e
        ∙ sym (each.input (row_flow s) ins v (plain_get s v (Pre a word) e) ∙ taken_pre g s.nodes (row_words s all r) v a word e)

    found_below : (m v : ℕ) → v < m → v < length s.nodes → slice_index whole (place s r v) ≡ slice_index here v
    found_below zero v less within = absurd (omega (arith, less))
    found_below (suc m) v less within =
        let n = slice_get-get_or s.nodes v (Const 0) within in
        node_found v (get_or s.nodes v (Const 0)) n (λ u lower. found_below m u (omega (arith, lower, less)) (omega (arith, lower, within)))

    pub row_found : (v : ℕ) → v < length s.nodes → slice_index whole (place s r v) ≡ slice_index (row_of s (pres g s.nodes) (row_words s all r)) v
    row_found v within = found_below (suc v) v (omega arith) within ∙ ap (λ values. slice_index values v) (row_values s (pres g s.nodes) (row_words s all r))

    pub carried_next : IsCarried (suc r) (λ a word. slice_index (row_of s (pres g s.nodes) (row_words s all r)) a)
    carried_next v a word e = ap (slice_index whole) (ap (later_place s (suc r) (λ u. place s r u) v) e) ∙ row_found a (named.nodes v (Pre a word) e).0

  pub carried_first : 0 < s.count → IsCarried 0 (λ a word. word)
  carried_first some v a word e = ap (slice_index whole) (ap (first_place s v) e) ∙ own_pre 0 v a word some e

  -- what a sink is due of rows
  due_rows : (nodes : List ℕ) → All (λ v. v < length s.nodes) nodes → (m r : ℕ) (g : ℕ → ℕ → ℕ) → r + m ≤ s.count → (0 < m → IsCarried r g)
      → map (slice_index whole) (flat_map (λ k. map (place s k) nodes) (range_with_len r m))
      ≡ flat_map (λ values. valued values nodes) (rows_of s (pres g s.nodes) (map (row_words s all) (range_with_len r m)))
  due_rows nodes known zero r g within carried = refl
  due_rows nodes known (suc m) r g within carried =
      let row : r < s.count = omega (arith, within) in
      let values : List ℕ = row_of s (pres g s.nodes) (row_words s all r) in
      let one : map (slice_index whole) (map (place s r) nodes) ≡ valued values nodes = pointwise (place s r) (slice_index values) nodes known (λ v low. row_found r row g (carried (omega arith)) v low) in
      let next : ℕ → ℕ → ℕ = λ a word. slice_index values a in
      let after : suc r ≡ r + 1 = omega arith in
      let some_more : 0 < m → IsCarried (r + 1) next = λ more. subst (λ k. IsCarried k next) after (carried_next r row g (carried (omega arith))) in
      let rest = due_rows nodes known m (r + 1) next (omega (arith, within)) some_more in
      map-append (slice_index whole) (map (place s r) nodes) (flat_map (λ k. map (place s k) nodes) (range_with_len (r + 1) m))
      ∙ ap (λ xs. xs ++ map (slice_index whole) (flat_map (λ k. map (place s k) nodes) (range_with_len (r + 1) m))) one
      ∙ ap (λ xs. valued values nodes ++ xs) (rest ∙ ap (λ cs. flat_map (λ vs. valued vs nodes) (rows_of s cs (map (row_words s all) (range_with_len (r + 1) m)))) (sym (pres_next values s.nodes)))
    where
      pointwise : (f h : ℕ → ℕ) (ns : List ℕ) → All (λ v. v < length s.nodes) ns → ((v : ℕ) → v < length s.nodes → slice_index whole (f v) ≡ h v) → map (slice_index whole) (map f ns) ≡ map h ns
      pointwise f h [] low same = refl
      pointwise f h (n ∷ ns) low same =
          ap (λ x. x ∷ map (slice_index whole) (map f ns)) (same n (low 0 0 (omega arith))) ∙ ap (λ xs. h n ∷ xs) (pointwise f h ns (λ k d inside. low (suc k) d (omega (arith, inside))) same)

  sink_due : (q : ℕ) → map (slice_index whole) (due_places s q) ≡ due_to s q (all_rows s all)
  sink_due q =
      due_rows (due_at s q) (due_known s named q) s.count 0 (λ a word. word) (omega arith) carried_first
      ∙ ap (λ cs. due_to s q (rows_of s cs (map (row_words s all) (range_with_len 0 s.count)))) (sym (pres_first s.nodes))

  pub unrolled_is_rows : outs_of (unrolled s) all ≡ all_due s (all_rows s all)
  unrolled_is_rows = map_pieces (slice_index whole) (due_places s) (λ q. due_to s q (all_rows s all)) (range_with_len 0 (length s.sinks)) sink_due
