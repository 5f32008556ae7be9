-- What is known of a stream that is unrolled node by node.
use Rattle.std.specs.Prelude.{◌≡◌, ◌==◌, ℕ, ◌+◌, ◌-◌, ◌*◌, ◌<◌, ◌≤◌, List, ◌++◌, length, map, take, replicate, set, slice_index, if◌then◌else◌}
use Rattle.std.specs.List.{flat_map, range_with_len}
use Rattle.raw_flow.specs.declared.limits.TheConstants.{MAX_NODES}
use Rattle.raw_flow.specs.declared.node.Node.{Node}
use Rattle.raw_flow.specs.declared.node.Node.TheVariants as node
use Rattle.raw_stream.specs.declared.row_node.RowNode.{RowNode}
use Rattle.raw_stream.specs.declared.row_node.RowNode.TheVariants.{Input, Const, Apply, Pre}
use Rattle.raw_stream.specs.Streams.{Stream, AreNamed}
use Rattle.raw_stream.specs.Unrolled.{word_count, word_place, place, node_at, row_nodes}
use Rattle.raw_unroll.specs.declared.unrolling.Unrolling.{Unrolling}

-- the nodes and outs of a stream name what there is, and the flow that it is has no more nodes than a flow may have
pub record Fits (s : Stream) : Type 0 where
  pub named : AreNamed s
  pub few : word_count s + s.count * length s.nodes ≤ MAX_NODES
  pub few_in_row : length s.nodes ≤ MAX_NODES

-- of a stream that fits the rows before row r are unrolled, and of row r the nodes before node v
pub record IsUnrolled (u : Unrolling) (s : Stream) (r v : ℕ) : Type 0 where
  pub fits : Fits s
  pub sources : length u.next.items ≡ length s.sources
  pub next : (q : ℕ) → q < length s.sources → slice_index u.next.items q ≡ word_place s r q v
  pub many : length u.places.items ≡ r * length s.nodes + v
  pub before : (k w : ℕ) → k < r → w < length s.nodes → slice_index u.places.items (k * length s.nodes + w) ≡ place s k w
  pub here : (w : ℕ) → w < v → slice_index u.places.items (r * length s.nodes + w) ≡ place s r w
  pub nodes : u.nodes.items ≡ replicate (word_count s) node.Input ++ (flat_map (row_nodes s) (range_with_len 0 r) ++ map (node_at s r) (take v s.nodes))

-- the next word of a source is taken, and nothing else is changed
pub record Takes (old new : Unrolling) (port : ℕ) : Type 0 where
  pub next : new.next.items ≡ set old.next.items port (slice_index old.next.items port + 1)
  pub places : new.places ≡ old.places
  pub nodes : new.nodes ≡ old.nodes

-- the words that node v of row r takes are taken, and nothing else is changed
pub record IsNext (old new : Unrolling) (s : Stream) (r v : ℕ) : Type 0 where
  pub sources : length new.next.items ≡ length s.sources
  pub next : (q : ℕ) → q < length s.sources → slice_index new.next.items q ≡ word_place s r q (v + 1)
  pub places : new.places ≡ old.places
  pub nodes : new.nodes ≡ old.nodes

-- where the value of a `Pre` of node a is found, in a row of so many nodes, whose first node has its place at `begin`
abbrev pub pre_place : Unrolling → ℕ → ℕ → ℕ → ℕ → ℕ
pre_place u nodes r begin a = if r == 0 then length u.nodes.items else slice_index u.places.items (begin - nodes + a)

-- so many places have those of the nodes that an operation of a row names, whose first node has its place at `begin`
abbrev pub AreThere : ℕ → ℕ → RowNode → Type 0
AreThere begin many (Apply op a b) = (begin + a < many) × (begin + b < many)
AreThere begin many _ = Unit {0}

-- the node that stands for one of that row
abbrev pub node_of : List ℕ → ℕ → RowNode → Node
node_of places begin (Input q) = node.Const 0
node_of places begin (Const word) = node.Const word
node_of places begin (Apply op a b) = node.Apply op (slice_index places (begin + a)) (slice_index places (begin + b))
node_of places begin (Pre a word) = node.Const word

-- where the value of each node of each row is found, of a stream that fits
pub record ArePlaces (s : Stream) (places : List ℕ) : Type 0 where
  pub fits : Fits s
  pub many : length places ≡ s.count * length s.nodes
  pub each : (r v : ℕ) → r < s.count → v < length s.nodes → slice_index places (r * length s.nodes + v) ≡ place s r v
