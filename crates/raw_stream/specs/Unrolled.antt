-- The flow that a stream is when it is unrolled.
use Rattle.std.specs.Prelude.{◌≡◌, ℕ, zero, suc, ◌+◌, ◌*◌, ◌<◌, ◌==◌, List, [], ◌∷◌, ◌++◌, length, map, take, replicate, Option, Some, slice_get, slice_index, sum_by, All, if◌then◌else◌}
use Rattle.std.specs.List.{flat_map, range_with_len}
use Rattle.raw_flow.specs.declared.node.Node.{Node}
use Rattle.raw_flow.specs.declared.node.Node.TheVariants as node
use Rattle.raw_flow.specs.Flows.{Dataflow, AreNodes, inputs_in, outs_of}
use Rattle.raw_stream.specs.declared.row_node.RowNode.{RowNode}
use Rattle.raw_stream.specs.declared.row_node.RowNode.TheVariants.{Input, Const, Apply, Pre}
use Rattle.raw_stream.specs.Streams.{Stream, AreNamed, first_words, rows_of, due_at, due_to}

-- how many words a node takes of source q
abbrev pub takes : ℕ → RowNode → ℕ
takes q (Input p) = if p == q then 1 else 0
takes q _ = 0

-- how many words source q gives a row, and how many of them stand before node v
abbrev pub width : Stream → ℕ → ℕ
width s q = sum_by (takes q) s.nodes

abbrev pub rank : Stream → ℕ → ℕ → ℕ
rank s q v = sum_by (takes q) (take v s.nodes)

-- The words of the sources stand one source behind the other, and those of a source row by row: where those of source q begin, and how many
-- there are in all.
abbrev pub first : Stream → ℕ → ℕ
first s zero = 0
first s (suc q) = first s q + s.count * width s q

abbrev pub word_count : Stream → ℕ
word_count s = first s (length s.sources)

-- where the word of an input stands: of node v of row r, which takes it of source q
abbrev pub word_place : Stream → ℕ → ℕ → ℕ → ℕ
word_place s r q v = first s q + r * width s q + rank s q v

-- the words of row r, in the order of its inputs
abbrev pub words_from : Stream → List ℕ → ℕ → ℕ → List RowNode → List ℕ
words_from s words r v [] = []
words_from s words r v (Input q ∷ nodes) = slice_index words (word_place s r q v) ∷ words_from s words r (v + 1) nodes
words_from s words r v (Const word ∷ nodes) = words_from s words r (v + 1) nodes
words_from s words r v (Apply op a b ∷ nodes) = words_from s words r (v + 1) nodes
words_from s words r v (Pre a word ∷ nodes) = words_from s words r (v + 1) nodes

abbrev pub row_words : Stream → List ℕ → ℕ → List ℕ
row_words s words r = words_from s words r 0 s.nodes

-- the values of all rows, where the sources have these words
abbrev pub all_rows : Stream → List ℕ → List (List ℕ)
all_rows s words = rows_of s (first_words s) (map (row_words s words) (range_with_len 0 s.count))

-- The nodes of the unrolled flow are an input for each word, and then the nodes of each row: where that of node v of row r stands.
abbrev pub own : Stream → ℕ → ℕ → ℕ
own s r v = word_count s + r * length s.nodes + v

-- Where the value of node v of row r is found: that of an input at its word, and that of a `Pre` behind the first row where that of its node in the
-- row before is found.
abbrev pub first_place : Stream → ℕ → Option RowNode → ℕ
first_place s v (Some (Input q)) = word_place s 0 q v
first_place s v _ = own s 0 v

abbrev pub later_place : Stream → ℕ → (ℕ → ℕ) → ℕ → Option RowNode → ℕ
later_place s r before v (Some (Input q)) = word_place s r q v
later_place s r before v (Some (Pre a word)) = before a
later_place s r before v _ = own s r v

abbrev pub place : Stream → ℕ → ℕ → ℕ
place s zero v = first_place s v (slice_get s.nodes v)
place s (suc r) v = later_place s (suc r) (λ a. place s r a) v (slice_get s.nodes v)

-- the node that stands for a node of row r; nobody names that of an input, nor that of a `Pre` behind the first row
abbrev pub node_at : Stream → ℕ → RowNode → Node
node_at s r (Input q) = node.Const 0
node_at s r (Const word) = node.Const word
node_at s r (Apply op a b) = node.Apply op (place s r a) (place s r b)
node_at s r (Pre a word) = node.Const word

abbrev pub row_nodes : Stream → ℕ → List Node
row_nodes s r = map (node_at s r) s.nodes

-- where what sink q is due is found, row by row
abbrev pub due_places : Stream → ℕ → List ℕ
due_places s q = flat_map (λ r. map (place s r) (due_at s q)) (range_with_len 0 s.count)

-- what all sinks are due, one behind the other
abbrev pub all_due : Stream → List (List ℕ) → List ℕ
all_due s values = flat_map (λ q. due_to s q values) (range_with_len 0 (length s.sinks))

abbrev pub unrolled : Stream → Dataflow
unrolled s = record {
  cols = s.cols;
  rows = s.rows;
  nodes = replicate (word_count s) node.Input ++ flat_map (row_nodes s) (range_with_len 0 s.count);
  outs = flat_map (due_places s) (range_with_len 0 (length s.sinks));
}

-- the nodes and outs of the unrolled flow name what there is, and it has an input for each word
pub record IsLawful (s : Stream) : Type 0 where
  pub nodes : AreNodes (unrolled s).nodes
  pub inputs : inputs_in (unrolled s).nodes ≡ word_count s
  pub outs : All (λ v. v < length (unrolled s).nodes) (unrolled s).outs

abbrev pub EachUnrolledIsLawful : Type 0
EachUnrolledIsLawful = (s : Stream) → AreNamed s → IsLawful s

-- the outs of the unrolled flow are what the sinks are due of the rows
abbrev pub EachUnrolledIsRows : Type 0
EachUnrolledIsRows = (s : Stream) (words : List ℕ) → AreNamed s → outs_of (unrolled s) words ≡ all_due s (all_rows s words)
