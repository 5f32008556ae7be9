-- Streams: what is computed of one row of words, and what is kept from row to row.
use Rattle.std.specs.Prelude.{◌≡◌, ℕ, ◌<◌, ◌^◌, ◌==◌, List, [], ◌∷◌, length, map, drop, Option, Some, None, slice_get, slice_index, All, if◌then◌else◌}
use Rattle.std.specs.List.{flat_map, filter_map}
use Rattle.raw_grid.specs.declared.parts.PortPlace.{PortPlace}
use Rattle.raw_flow.specs.declared.node.Node.{Node}
use Rattle.raw_flow.specs.declared.node.Node.TheVariants as node
use Rattle.raw_flow.specs.Flows.{values_from}
use Rattle.raw_stream.specs.declared.out.StreamOut.{StreamOut}
use Rattle.raw_stream.specs.declared.row_node.RowNode.{RowNode}
use Rattle.raw_stream.specs.declared.row_node.RowNode.TheVariants.{Input, Const, Apply, Pre}

-- The size of the grid, how many rows of words there are, the places of the sources and sinks, the nodes of a row, and what goes to sinks in each
-- row. Sources and sinks are numbered from 0 each, as their places stand here.
pub record Stream : Type 0 where
  pub cols : ℕ
  pub rows : ℕ
  pub count : ℕ
  pub sources : List PortPlace
  pub sinks : List PortPlace
  pub nodes : List RowNode
  pub outs : List StreamOut

-- Node v names a source of so many, nodes of so many, and a word; what an operation names stands before it.
abbrev pub IsRowNode : ℕ → ℕ → ℕ → RowNode → Type 0
IsRowNode sources nodes v (Input q) = q < sources
IsRowNode sources nodes v (Const word) = word < 2 ^ 32
IsRowNode sources nodes v (Apply op a b) = (a < v) × (b < v)
IsRowNode sources nodes v (Pre a word) = (a < nodes) × (word < 2 ^ 32)

abbrev pub AreRowNodes : ℕ → List RowNode → Type 0
AreRowNodes sources nodes = (v : ℕ) (node : RowNode) → slice_get nodes v ≡ Some node → IsRowNode sources (length nodes) v node

-- what goes to a sink of so many, of nodes of so many
pub record IsOut (sinks nodes : ℕ) (out : StreamOut) : Type 0 where
  pub port : out.port < sinks
  pub node : out.node < nodes

-- the nodes and outs of a stream name what there is
pub record AreNamed (s : Stream) : Type 0 where
  pub nodes : AreRowNodes (length s.sources) s.nodes
  pub outs : All (IsOut (length s.sinks) (length s.nodes)) s.outs

-- A row is a plain flow: its inputs, in the order in which they stand, are the words of the row and what is carried into it.
abbrev pub plain : RowNode → Node
plain (Input q) = node.Input
plain (Const word) = node.Const word
plain (Apply op a b) = node.Apply op a b
plain (Pre a word) = node.Input

abbrev pub plain_nodes : Stream → List Node
plain_nodes s = map plain s.nodes

-- the words of these inputs: each `Input` takes the next word of the row, and each `Pre` the next word that is carried into it
abbrev pub taken : List RowNode → List ℕ → List ℕ → List ℕ
taken [] carried words = []
taken (Input q ∷ nodes) carried words = slice_index words 0 ∷ taken nodes carried (drop 1 words)
taken (Const word ∷ nodes) carried words = taken nodes carried words
taken (Apply op a b ∷ nodes) carried words = taken nodes carried words
taken (Pre a word ∷ nodes) carried words = slice_index carried 0 ∷ taken nodes (drop 1 carried) words

-- the values of the nodes of a row, of what is carried into it and of its words
abbrev pub row_of : Stream → List ℕ → List ℕ → List ℕ
row_of s carried words = values_from (taken s.nodes carried words) 0 [] (plain_nodes s)

-- the values of nodes
abbrev pub valued : List ℕ → List ℕ → List ℕ
valued values nodes = map (slice_index values) nodes

-- what is carried into the first row
abbrev pub first_of : RowNode → Option ℕ
first_of (Pre a word) = Some word
first_of _ = None

abbrev pub first_words : Stream → List ℕ
first_words s = filter_map first_of s.nodes

-- the nodes whose values are carried into the next row, and these values
abbrev pub next_of : RowNode → Option ℕ
next_of (Pre a word) = Some a
next_of _ = None

abbrev pub next_nodes : Stream → List ℕ
next_nodes s = filter_map next_of s.nodes

abbrev pub carried_after : Stream → List ℕ → List ℕ → List ℕ
carried_after s carried words = valued (row_of s carried words) (next_nodes s)

-- the values of the nodes of rows, each from the one before
abbrev pub rows_of : Stream → List ℕ → List (List ℕ) → List (List ℕ)
rows_of s carried [] = []
rows_of s carried (words ∷ rows) = row_of s carried words ∷ rows_of s (carried_after s carried words) rows

-- the nodes whose values sink q gets of a row
abbrev pub due_of : ℕ → StreamOut → Option ℕ
due_of q out = if out.port == q then Some out.node else None

abbrev pub due_at : Stream → ℕ → List ℕ
due_at s q = filter_map (due_of q) s.outs

-- all values that sink q gets, row by row, where these are the values of the rows
abbrev pub due_to : Stream → ℕ → List (List ℕ) → List ℕ
due_to s q values = flat_map (λ row. valued row (due_at s q)) values
