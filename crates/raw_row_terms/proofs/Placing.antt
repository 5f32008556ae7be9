-- Nodes and rows that are placed in a table of terms have the values of nodes and rows.
use Rattle.std.proofs.Common.{◌≡◌, ℕ, zero, suc, ◌^◌, ◌<◌, List, [], ◌∷◌, ◌++◌, length, drop, Some, refl, ap}
use Rattle.std.specs.Prelude.{slice_get, slice_index}
use Rattle.raw_tile_isa.specs.Words.{EachGivesWords}
use Rattle.raw_flow.specs.declared.node.Node.{Node}
use Rattle.raw_flow.specs.declared.node.Node.TheVariants.{Input, Const, Apply}
use Rattle.raw_flow.specs.Flows.{with_input, value_of, values_from}
use Rattle.raw_stream.specs.declared.row_node.RowNode.{RowNode}
use Rattle.raw_stream.specs.declared.row_node.RowNode.TheVariants as row
use Rattle.raw_stream.specs.Streams.{Stream, plain_nodes, taken, row_of, valued, next_nodes, carried_after, rows_of, due_at, due_to}
use Rattle.raw_term.specs.Terms.{Numbered}
use Rattle.raw_term.specs.Claims.{ClaimTerms}
use Rattle.raw_term.proofs.Terms.{Holds, AreTerms, IsMade, made_keeps, term_values}
use Rattle.raw_term.proofs.Forms.{word_made, made_is}
use Rattle.raw_term.proofs.Image.{Pairs, AlikeWires, pairs_up, pairs_push, wires_up}
use Rattle.raw_term.proofs.Start.{pairs_left}
use Rattle.raw_term.proofs.SwitchImage.{pairs_at}
use Rattle.raw_term.proofs.TileTerms.{none_holds}
use Rattle.raw_row_terms.specs.RowTerms.{placed_node, placed_from, placed_row, RowTerms, row_terms, carried_over, AreWordNodes}

pub pairs_append : (H : ℕ → ℕ → Type 0) (xs ys us vs : List ℕ) → Pairs H xs ys → Pairs H us vs → Pairs H (xs ++ us) (ys ++ vs)
pairs_append H [] [] us vs h g = g
pairs_append H [] (y ∷ ys) us vs h g = absurd h
pairs_append H (x ∷ xs) [] us vs h g = absurd h
pairs_append H (x ∷ xs) (y ∷ ys) us vs h g = (h.0, pairs_append H xs ys us vs h.1 g)

pub pairs_valued : (H : ℕ → ℕ → Type 0) → H 0 0 → (numbers values nodes : List ℕ) → Pairs H numbers values → Pairs H (valued numbers nodes) (valued values nodes)
pairs_valued H none numbers values [] h = tt
pairs_valued H none numbers values (v ∷ nodes) h = (pairs_at H none numbers values h v, pairs_valued H none numbers values nodes h)

-- the inputs of a row
pub pairs_taken : (H : ℕ → ℕ → Type 0) → H 0 0 → (nodes : List RowNode) (cs carried ns words : List ℕ) → Pairs H cs carried → Pairs H ns words → Pairs H (taken nodes cs ns) (taken nodes carried words)
pairs_taken H none [] cs carried ns words h g = tt
pairs_taken H none (row.Input q ∷ nodes) cs carried ns words h g = (pairs_at H none ns words g 0, pairs_taken H none nodes cs carried (drop 1 ns) (drop 1 words) h (pairs_left H 1 ns words g))
pairs_taken H none (row.Const word ∷ nodes) cs carried ns words h g = pairs_taken H none nodes cs carried ns words h g
pairs_taken H none (row.Apply op a b ∷ nodes) cs carried ns words h g = pairs_taken H none nodes cs carried ns words h g
pairs_taken H none (row.Pre a word ∷ nodes) cs carried ns words h g = (pairs_at H none cs carried h 0, pairs_taken H none nodes (drop 1 cs) (drop 1 carried) ns words (pairs_left H 1 cs carried h) g)

module _ (each : EachGivesWords) (inputs : List ℕ) where
  pub record Placed (nodes : List Node) (c : ClaimTerms) (values : List ℕ) : Type 0 where
    pub terms : AreTerms inputs c.nodes
    pub keeps : (v y : ℕ) → Holds (term_values inputs nodes) v y → Holds (term_values inputs c.nodes) v y
    pub each_is : Pairs (Holds (term_values inputs c.nodes)) c.numbers values

  module _ (ins words : List ℕ) where
    node_placed : (nodes : List Node) (k : ℕ) (before done : List ℕ) (node : Node) → AreTerms inputs nodes → Pairs (Holds (term_values inputs nodes)) ins words → AreWordNodes (node ∷ []) → Pairs (Holds (term_values inputs nodes)) before done
        → IsMade inputs nodes (placed_node nodes ins k before node) (value_of words k done node)
    node_placed nodes k before done Input are given small h = made_keeps inputs nodes are (slice_index ins k) (slice_index words k) (pairs_at (Holds (term_values inputs nodes)) (none_holds inputs nodes are) ins words given k)
    node_placed nodes k before done (Const word) are given small h = word_made inputs nodes are word (small 0 word refl)
    node_placed nodes k before done (Apply op a b) are given small h =
        let none = none_holds inputs nodes are in
        made_is inputs nodes are each op (slice_index before a) (slice_index before b) (slice_index done a) (slice_index done b)
        (pairs_at (Holds (term_values inputs nodes)) none before done h a) (pairs_at (Holds (term_values inputs nodes)) none before done h b)

    pub all_placed : (nodes : List Node) (k : ℕ) (before done : List ℕ) (more : List Node) → AreTerms inputs nodes → Pairs (Holds (term_values inputs nodes)) ins words → AreWordNodes more → Pairs (Holds (term_values inputs nodes)) before done
        → Placed nodes (placed_from nodes ins k before more) (values_from words k done more)
    all_placed nodes k before done [] are given small h = record { terms = are; keeps = λ v y g. g; each_is = h }
    all_placed nodes k before done (node ∷ more) are given small h =
        let r : Numbered = placed_node nodes ins k before node in
        let x : ℕ = value_of words k done node in
        let one : IsMade inputs nodes r x = node_placed nodes k before done node are given (λ v word e. by_head v word e) h in
        let V : List ℕ = term_values inputs nodes in
        let W : List ℕ = term_values inputs r.nodes in
        let pairs : Pairs (Holds W) (before ++ r.number ∷ []) (done ++ x ∷ []) = pairs_push (Holds W) before done r.number x (pairs_up (Holds V) (Holds W) one.keeps before done h) one.value in
        let rest : Placed r.nodes (placed_from r.nodes ins (with_input node k) (before ++ r.number ∷ []) more) (values_from words (with_input node k) (done ++ x ∷ []) more) =
        all_placed r.nodes (with_input node k) (before ++ r.number ∷ []) (done ++ x ∷ []) more one.terms (pairs_up (Holds V) (Holds W) one.keeps ins words given) (λ v word e. small (suc v) word e) pairs in
        record { terms = rest.terms; keeps = λ v y g. rest.keeps v y (one.keeps v y g); each_is = rest.each_is }
      where
        by_head : (v word : ℕ) → slice_get (node ∷ []) v ≡ Some (Const word) → word < 2 ^ 32
        by_head zero word e = small 0 word e
        by_head (suc v) word e = cc e

  -- rows
  module _ (s : Stream) (small : AreWordNodes (plain_nodes s)) where
    pub record RowsPlaced (nodes : List Node) (r : RowTerms) (carried : List ℕ) (values : List (List ℕ)) : Type 0 where
      pub terms : AreTerms inputs r.nodes
      pub keeps : (v y : ℕ) → Holds (term_values inputs nodes) v y → Holds (term_values inputs r.nodes) v y
      pub carries : Pairs (Holds (term_values inputs r.nodes)) r.carried carried
      pub each_row : AlikeWires (Holds (term_values inputs r.nodes)) r.values values

    pub rows_placed : (nodes : List Node) (cs carried : List ℕ) (ns rows : List (List ℕ)) → AreTerms inputs nodes → Pairs (Holds (term_values inputs nodes)) cs carried → AlikeWires (Holds (term_values inputs nodes)) ns rows
        → RowsPlaced nodes (row_terms s nodes cs ns) (carried_over s carried rows) (rows_of s carried rows)
    rows_placed nodes cs carried [] [] are h g = record { terms = are; keeps = λ v y f. f; carries = h; each_row = tt }
    rows_placed nodes cs carried [] (y ∷ rows) are h g = absurd g
    rows_placed nodes cs carried (x ∷ ns) [] are h g = absurd g
    rows_placed nodes cs carried (x ∷ ns) (y ∷ rows) are h g =
        let V : List ℕ = term_values inputs nodes in
        let c : ClaimTerms = placed_row s.nodes nodes cs x in
        let one : Placed nodes c (row_of s carried y) = all_placed (taken s.nodes cs x) (taken s.nodes carried y) nodes 0 [] [] (plain_nodes s) are
        (pairs_taken (Holds V) (none_holds inputs nodes are) s.nodes cs carried x y h g.0) small tt in
        let W : List ℕ = term_values inputs c.nodes in
        let next : Pairs (Holds W) (valued c.numbers (next_nodes s)) (carried_after s carried y) = pairs_valued (Holds W) (none_holds inputs c.nodes one.terms) c.numbers (row_of s carried y) (next_nodes s) one.each_is in
        let rest : RowsPlaced c.nodes (row_terms s c.nodes (valued c.numbers (next_nodes s)) ns) (carried_over s (carried_after s carried y) rows) (rows_of s (carried_after s carried y) rows) =
        rows_placed c.nodes (valued c.numbers (next_nodes s)) (carried_after s carried y) ns rows one.terms next (wires_up (Holds V) (Holds W) one.keeps ns rows g.1) in
        let U : List ℕ = term_values inputs (row_terms s c.nodes (valued c.numbers (next_nodes s)) ns).nodes in
        record {
          terms = rest.terms;
          keeps = λ v z f. rest.keeps v z (one.keeps v z f);
          carries = rest.carries;
          each_row = (pairs_up (Holds W) (Holds U) rest.keeps c.numbers (row_of s carried y) one.each_is, rest.each_row);
        }

-- what a port is due
module _ (s : Stream) where
  pub rows_many : (carried : List ℕ) (rows : List (List ℕ)) → length (rows_of s carried rows) ≡ length rows
  rows_many carried [] = refl
  rows_many carried (words ∷ rows) = ap suc (rows_many (carried_after s carried words) rows)

  module _ (H : ℕ → ℕ → Type 0) where
    pub pairs_due : H 0 0 → (ns values : List (List ℕ)) → AlikeWires H ns values → (q : ℕ) → Pairs H (due_to s q ns) (due_to s q values)
    pairs_due none [] [] h q = tt
    pairs_due none [] (y ∷ values) h q = absurd h
    pairs_due none (x ∷ ns) [] h q = absurd h
    pairs_due none (x ∷ ns) (y ∷ values) h q =
        pairs_append H (valued x (due_at s q)) (valued y (due_at s q)) (due_to s q ns) (due_to s q values) (pairs_valued H none x y (due_at s q) h.0) (pairs_due none ns values h.1 q)
