-- Where the values of the nodes of rows are found in the unrolled flow.
use Rattle.std.proofs.Common.{◌≡◌, ℕ, zero, suc, ◌+◌, ◌*◌, ◌<◌, ◌≤◌, cond, List, [], ◌∷◌, ◌++◌, length, take, replicate, Option, Some, None, refl, sym, ap, ◌∙◌, subst, ⊎_elim, arith}
use Rattle.std.specs.Prelude.{slice_get, sum_by, option_map}
use Rattle.std.specs.List.{flat_map, range_with_len}
use Rattle.std.proofs.lemmas.Bool.{cases_lt, eq-eqb}
use Rattle.std.proofs.lemmas.Nat.{mul-add-lt}
use Rattle.std.proofs.lemmas.List.{length-map}
use Rattle.std.proofs.lemmas.List.Sums.{sum_by-cons}
use Rattle.std.proofs.lemmas.Option.{none-some, same_Some, slice_get_within, slice_get-map}
use Rattle.raw_flow.specs.declared.node.FlowOp.{FlowOp}
use Rattle.raw_flow.specs.declared.node.Node.{Node}
use Rattle.raw_flow.specs.declared.node.Node.TheVariants as flow_node
use Rattle.raw_flow.specs.Flows.{IsNode, AreNodes, inputs_in}
use Rattle.raw_stream.specs.declared.row_node.RowNode.{RowNode}
use Rattle.raw_stream.specs.declared.row_node.RowNode.TheVariants.{Input, Const, Apply, Pre}
use Rattle.raw_stream.specs.Streams.{Stream, AreNamed}
use Rattle.raw_stream.specs.Unrolled.{takes, width, rank, first, word_count, word_place, own, first_place, later_place, place, node_at, row_nodes, unrolled}
use Rattle.raw_stream.proofs.Lists.{get_right, get_piece}

pub many_inputs : (n : ℕ) → length (replicate n flow_node.Input) ≡ n
many_inputs zero = refl
many_inputs (suc n) = ap suc (many_inputs n)

-- an input counts among those of its source
rank_below : (q : ℕ) (nodes : List RowNode) (v : ℕ) → slice_get nodes v ≡ Some (Input q) → sum_by (takes q) (take v nodes) < sum_by (takes q) nodes
rank_below q [] v e = absurd (none-some (Input q) e)
rank_below q (n ∷ nodes) zero e =
    let one : takes q n ≡ 1 = ap (takes q) (same_Some n (Input q) e) ∙ ap (λ b. cond b 1 0) (eq-eqb q q refl) in
    omega (arith, one, sum_by-cons (takes q) n nodes)
rank_below q (n ∷ nodes) (suc v) e =
    let less = rank_below q nodes v e in omega (arith, less, sum_by-cons (takes q) n (take v nodes), sum_by-cons (takes q) n nodes)

pub first_grows : (s : Stream) (q n : ℕ) → q < n → first s q + s.count * width s q ≤ first s n
first_grows s q zero below = absurd (omega (arith, below))
first_grows s q (suc n) below =
    ⊎_elim (λ (less : q < n). let before = first_grows s q n less in omega (arith, before))
    (λ (last : n ≤ q). let same : n ≡ q = omega (arith, last, below) in subst (λ k. first s k + s.count * width s k ≤ first s (suc n)) same (omega arith))
    (cases_lt q n)

module _ (s : Stream) (named : AreNamed s) where
  -- the word of an input is one of the words
  pub word_within : (r q v : ℕ) → r < s.count → slice_get s.nodes v ≡ Some (Input q) → word_place s r q v < word_count s
  word_within r q v row e =
      let some : q < length s.sources = named.nodes v (Input q) e in
      let grown = first_grows s q (length s.sources) some in
      let inside = mul-add-lt r (width s q) (rank s q v) s.count row (rank_below q s.nodes v e) in
      let turned : width s q * s.count ≡ s.count * width s q = grind arith in
      omega (arith, grown, inside, turned)

  -- a value of a later row, where those of the row before are found so
  later_below : (r v : ℕ) → suc r < s.count → ((a : ℕ) → a < length s.nodes → place s r a ≤ own s r a)
      → (o : Option RowNode) → slice_get s.nodes v ≡ o → later_place s (suc r) (λ u. place s r u) v o ≤ own s (suc r) v
  later_below r v row before (Some (Input q)) e = let inside = word_within (suc r) q v row e in omega (arith, inside)
  later_below r v row before (Some (Const word)) e = omega arith
  later_below r v row before (Some (Apply op a b)) e = omega arith
  later_below r v row before (Some (Pre a word)) e =
      let some = (named.nodes v (Pre a word) e).0 in
      let there = before a some in
      let more : suc r * length s.nodes ≡ length s.nodes + r * length s.nodes = grind arith in
      omega (arith, there, some, more)
  later_below r v row before None e = omega arith

  -- a value is found at its own node or before it
  pub place_below : (r v : ℕ) → r < s.count → v < length s.nodes → place s r v ≤ own s r v
  place_below zero v row within = by (slice_get s.nodes v) refl where
    by : (o : Option RowNode) → slice_get s.nodes v ≡ o → first_place s v o ≤ own s 0 v
    by (Some (Input q)) e = let inside = word_within 0 q v row e in omega (arith, inside)
    by (Some (Const word)) e = omega arith
    by (Some (Apply op a b)) e = omega arith
    by (Some (Pre a word)) e = omega arith
    by None e = omega arith
  place_below (suc r) v row within = later_below r v row (λ a some. place_below r a (omega (arith, row)) some) (slice_get s.nodes v) refl

  -- where the value of a node is found
  pub place_input : (r q v : ℕ) → slice_get s.nodes v ≡ Some (Input q) → place s r v ≡ word_place s r q v
  place_input zero q v e = ap (first_place s v) e
  place_input (suc r) q v e = ap (later_place s (suc r) (λ u. place s r u) v) e

  pub place_const : (r word v : ℕ) → slice_get s.nodes v ≡ Some (Const word) → place s r v ≡ own s r v
  place_const zero word v e = ap (first_place s v) e
  place_const (suc r) word v e = ap (later_place s (suc r) (λ u. place s r u) v) e

  pub place_apply : (r v : ℕ) (op : FlowOp) (a b : ℕ) → slice_get s.nodes v ≡ Some (Apply op a b) → place s r v ≡ own s r v
  place_apply zero v op a b e = ap (first_place s v) e
  place_apply (suc r) v op a b e = ap (later_place s (suc r) (λ u. place s r u) v) e

  -- nodes from k on name earlier nodes, and words
  abbrev AreFrom : ℕ → List Node → Type 0
  AreFrom k nodes = (i : ℕ) (node : Node) → slice_get nodes i ≡ Some node → IsNode (k + i) node

  are_both : (k : ℕ) (xs ys : List Node) → AreFrom k xs → AreFrom (k + length xs) ys → AreFrom k (xs ++ ys)
  are_both k [] ys one other i node e = subst (λ j. IsNode j node) (omega arith) (other i node e)
  are_both k (x ∷ xs) ys one other zero node e = one 0 node e
  are_both k (x ∷ xs) ys one other (suc i) node e =
      subst (λ j. IsNode j node) (omega arith)
      (are_both (k + 1) xs ys (λ j n f. subst (λ m. IsNode m n) (omega arith) (one (suc j) n f)) (λ j n f. subst (λ m. IsNode m n) (omega arith) (other j n f)) i node e)

  are_inputs : (n k : ℕ) → AreFrom k (replicate n flow_node.Input)
  are_inputs zero k i node e = absurd (none-some node e)
  are_inputs (suc n) k zero node e = subst (IsNode (k + 0)) (same_Some flow_node.Input node e) tt
  are_inputs (suc n) k (suc i) node e = subst (λ j. IsNode j node) (omega arith) (are_inputs n (k + 1) i node e)

  row_node : (r v : ℕ) (n : RowNode) → r < s.count → slice_get s.nodes v ≡ Some n → IsNode (own s r v) (node_at s r n)
  row_node r v (Input q) row e = omega arith
  row_node r v (Const word) row e = named.nodes v (Const word) e
  row_node r v (Apply op a b) row e =
      let below = named.nodes v (Apply op a b) e in
      let within = slice_get_within s.nodes v (Apply op a b) e in
      let one = place_below r a row (omega (arith, below.0, within)) in
      let other = place_below r b row (omega (arith, below.1, within)) in
      (omega (arith, one, below.0), omega (arith, other, below.1))
  row_node r v (Pre a word) row e = (named.nodes v (Pre a word) e).1

  are_row : (r : ℕ) → r < s.count → AreFrom (own s r 0) (row_nodes s r)
  are_row r row v node e = by (slice_get s.nodes v) refl where
    by : (o : Option RowNode) → slice_get s.nodes v ≡ o → IsNode (own s r 0 + v) node
    by None f = absurd (none-some node (sym (slice_get-map (node_at s r) s.nodes v ∙ ap (option_map (node_at s r)) f) ∙ e))
    by (Some n) f =
        let is : node_at s r n ≡ node = same_Some (node_at s r n) node (sym (slice_get-map (node_at s r) s.nodes v ∙ ap (option_map (node_at s r)) f) ∙ e) in
        subst (λ m. IsNode (own s r 0 + v) m) is (subst (λ j. IsNode j (node_at s r n)) (omega arith) (row_node r v n row f))

  are_rows : (m r : ℕ) → r + m ≤ s.count → AreFrom (own s r 0) (flat_map (row_nodes s) (range_with_len r m))
  are_rows zero r within i node e = absurd (none-some node e)
  are_rows (suc m) r within i node e =
      let long : length (row_nodes s r) ≡ length s.nodes = length-map s.nodes (node_at s r) in
      let more : (r + 1) * length s.nodes ≡ length s.nodes + r * length s.nodes = grind arith in
      are_both (own s r 0) (row_nodes s r) (flat_map (row_nodes s) (range_with_len (r + 1) m)) (are_row r (omega (arith, within)))
      (λ j n f. subst (λ k. IsNode k n) (omega (arith, long, more)) (are_rows m (r + 1) (omega (arith, within)) j n f)) i node e

  pub are_nodes : AreNodes (unrolled s).nodes
  are_nodes i node e =
      let n : ℕ = word_count s in
      let rows = are_rows s.count 0 (omega arith) in
      let long : length (replicate n flow_node.Input) ≡ n = many_inputs n in
      subst (λ j. IsNode j node) (omega arith)
      (are_both 0 (replicate n flow_node.Input) (flat_map (row_nodes s) (range_with_len 0 s.count)) (are_inputs n 0) (λ j m f. subst (λ k. IsNode k m) (omega (arith, long)) (rows j m f)) i node e)

  -- the nodes of the unrolled flow
  pub node_there : (r v : ℕ) (n : RowNode) → r < s.count → slice_get s.nodes v ≡ Some n → slice_get (unrolled s).nodes (own s r v) ≡ Some (node_at s r n)
  node_there r v n row e =
      let here : slice_get (row_nodes s (0 + r)) v ≡ Some (node_at s r n) = subst (λ k. slice_get (row_nodes s k) v ≡ Some (node_at s r n)) (omega arith) (slice_get-map (node_at s r) s.nodes v ∙ ap (option_map (node_at s r)) e) in
      let there = get_piece (row_nodes s) (length s.nodes) (λ k. length-map s.nodes (node_at s k)) s.count 0 r v (node_at s r n) row here in
      let long : length (replicate (word_count s) flow_node.Input) ≡ word_count s = many_inputs (word_count s) in
      subst (λ k. slice_get (unrolled s).nodes k ≡ Some (node_at s r n)) (omega (arith, long))
      (get_right (replicate (word_count s) flow_node.Input) (flat_map (row_nodes s) (range_with_len 0 s.count)) (r * length s.nodes + v) (node_at s r n) there)

-- the inputs come first
pub input_there : (n i : ℕ) (rest : List Node) → i < n → slice_get (replicate n flow_node.Input ++ rest) i ≡ Some flow_node.Input
input_there zero i rest below = absurd (omega (arith, below))
input_there (suc n) zero rest below = refl
input_there (suc n) (suc i) rest below = input_there n i rest (omega (arith, below))

pub inputs_before : (n i : ℕ) (rest : List Node) → i < n → inputs_in (take i (replicate n flow_node.Input ++ rest)) ≡ i
inputs_before zero i rest below = absurd (omega (arith, below))
inputs_before (suc n) zero rest below = refl
inputs_before (suc n) (suc i) rest below = let before = inputs_before n i rest (omega (arith, below)) in omega (arith, before)
