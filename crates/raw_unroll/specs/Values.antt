-- The values of a stream row by row, and what is known of them node by node.
use Rattle.std.specs.Prelude.{◌≡◌, ◌==◌, ℕ, zero, suc, ◌+◌, ◌<◌, List, length, set, slice_index, if◌then◌else◌}
use Rattle.raw_flow.specs.Flows.{applied}
use Rattle.raw_stream.specs.declared.row_node.RowNode.{RowNode}
use Rattle.raw_stream.specs.declared.row_node.RowNode.TheVariants.{Input, Const, Apply, Pre}
use Rattle.raw_stream.specs.Streams.{Stream, first_words, row_of, carried_after}
use Rattle.raw_stream.specs.Unrolled.{word_place, row_words}

-- what is carried into row r, and the values of its nodes, where the sources have these words
abbrev pub carried_into : Stream → List ℕ → ℕ → List ℕ
carried_into s all zero = first_words s
carried_into s all (suc r) = carried_after s (carried_into s all r) (row_words s all r)

unfoldable pub row_at : Stream → List ℕ → ℕ → List ℕ
row_at s all r = row_of s (carried_into s all r) (row_words s all r)

-- of each source the place of the word that the next input takes, of those from node v of row r on
pub record AreNext (s : Stream) (r v : ℕ) (next : List ℕ) : Type 0 where
  pub many : length next ≡ length s.sources
  pub each : (q : ℕ) → q < length s.sources → slice_index next q ≡ word_place s r q v

-- the values of the row before row r, if there is one
abbrev pub IsBefore : Stream → List ℕ → ℕ → List ℕ → Type 0
IsBefore s all zero before = Unit {0}
IsBefore s all (suc r) before = before ≡ row_at s all r

-- the values of the nodes of row r before node v
pub record AreValues (s : Stream) (all : List ℕ) (r v : ℕ) (values : List ℕ) : Type 0 where
  pub many : length values ≡ v
  pub each : (u : ℕ) → u < v → slice_index values u ≡ slice_index (row_at s all r) u

-- what a node of row r names is there
abbrev pub HasValue : List ℕ → List ℕ → List ℕ → List ℕ → ℕ → RowNode → Type 0
HasValue next words before values r (Input q) = (q < length next) × (slice_index next q < length words)
HasValue next words before values r (Const word) = Unit {0}
HasValue next words before values r (Apply op a b) = (a < length values) × (b < length values)
HasValue next words before values r (Pre a word) = 0 < r → a < length before

-- its value, by the next words, the values of the row before, and those of the nodes before it
abbrev pub node_value : List ℕ → List ℕ → List ℕ → List ℕ → ℕ → RowNode → ℕ
node_value next words before values r (Input q) = slice_index words (slice_index next q)
node_value next words before values r (Const word) = word
node_value next words before values r (Apply op a b) = applied op (slice_index values a) (slice_index values b)
node_value next words before values r (Pre a word) = if r == 0 then word else slice_index before a

-- the places of the next words behind it
abbrev pub next_after : List ℕ → RowNode → List ℕ
next_after next (Input q) = set next q (slice_index next q + 1)
next_after next _ = next
