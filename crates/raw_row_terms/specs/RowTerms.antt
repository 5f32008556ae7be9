-- Nodes, and the rows of a stream, as terms of a table.
use Rattle.std.specs.Prelude.{◌≡◌, ℕ, ◌^◌, ◌<◌, Some, List, [], ◌∷◌, ◌++◌, map, slice_get, slice_index}
use Rattle.raw_flow.specs.declared.node.Node.{Node}
use Rattle.raw_flow.specs.declared.node.Node.TheVariants.{Input, Const, Apply}
use Rattle.raw_flow.specs.Flows.{with_input}
use Rattle.raw_stream.specs.declared.row_node.RowNode.{RowNode}
use Rattle.raw_stream.specs.Streams.{Stream, plain, taken, valued, next_nodes, carried_after}
use Rattle.raw_term.specs.Terms.{Numbered, with_node, made}
use Rattle.raw_term.specs.Claims.{ClaimTerms}

-- the term of a node, where k inputs and nodes with the terms `before` stand before it, and the k-th input has the k-th of these terms
abbrev pub placed_node : List Node → List ℕ → ℕ → List ℕ → Node → Numbered
placed_node nodes ins k before Input = record { nodes = nodes; number = slice_index ins k }
placed_node nodes ins k before (Const word) = with_node nodes (Const word)
placed_node nodes ins k before (Apply op a b) = made nodes op (slice_index before a) (slice_index before b)

abbrev pub placed_from : List Node → List ℕ → ℕ → List ℕ → List Node → ClaimTerms
placed_from nodes ins k before [] = record { nodes = nodes; numbers = before }
placed_from nodes ins k before (node ∷ more) =
    placed_from (placed_node nodes ins k before node).nodes ins (with_input node k) (before ++ (placed_node nodes ins k before node).number ∷ []) more

-- the terms of nodes, where these are those of the inputs
abbrev pub placed : List Node → List ℕ → List Node → ClaimTerms
placed nodes ins more = placed_from nodes ins 0 [] more

-- the terms of the nodes of a row, where these are those of what is carried into it and of its words
abbrev pub placed_row : List RowNode → List Node → List ℕ → List ℕ → ClaimTerms
placed_row row nodes carried words = placed nodes (taken row carried words) (map plain row)

-- a table, the terms that are carried out of rows, and the terms of the nodes of each row
pub record RowTerms : Type 0 where
  pub nodes : List Node
  pub carried : List ℕ
  pub values : List (List ℕ)

abbrev pub with_row : List ℕ → RowTerms → RowTerms
with_row numbers r = record { nodes = r.nodes; carried = r.carried; values = numbers ∷ r.values }

abbrev pub row_terms : Stream → List Node → List ℕ → List (List ℕ) → RowTerms
row_terms s nodes carried [] = record { nodes = nodes; carried = carried; values = [] }
row_terms s nodes carried (words ∷ rows) =
    with_row (placed_row s.nodes nodes carried words).numbers
    (row_terms s (placed_row s.nodes nodes carried words).nodes (valued (placed_row s.nodes nodes carried words).numbers (next_nodes s)) rows)

-- what is carried out of rows
abbrev pub carried_over : Stream → List ℕ → List (List ℕ) → List ℕ
carried_over s carried [] = carried
carried_over s carried (words ∷ rows) = carried_over s (carried_after s carried words) rows

-- the words of constants are words
abbrev pub AreWordNodes : List Node → Type 0
AreWordNodes nodes = (v : ℕ) (word : ℕ) → slice_get nodes v ≡ Some (Const word) → word < 2 ^ 32

abbrev pub AllWords : List ℕ → Type 0
AllWords words = (i x : ℕ) → slice_get words i ≡ Some x → x < 2 ^ 32
