-- The flow that statements define together.
use Rattle.std.specs.Prelude.{ℕ, List, [], ◌∷◌, ◌++◌, Option, Some, None, slice_get, unwrap_or}
use Rattle.std.specs.Option.{option_to_list}
use Rattle.std.specs.List.{filter_map, position}
use Rattle.std.specs.Str.{bytes_eq}
use Rattle.raw_flow.specs.declared.node.Node.{Node}
use Rattle.raw_flow.specs.declared.node.Node.TheVariants as node
use Rattle.raw_flow.specs.Flows.{Dataflow, IsFlow, AreInputs}
use Rattle.raw_flow_text.specs.Statement.{Statement}
use Rattle.raw_flow_text.specs.Statement.Statement.{Grid, Input, Const, Apply, Out}

-- a flow, and the words of its inputs in their order
pub record FedFlow : Type 0 where
  pub flow : Dataflow
  pub inputs : List ℕ

-- a flow that keeps all that flows keep, with as many words as it has inputs
pub record IsFed (fed : FedFlow) : Type 0 where
  pub flow : IsFlow fed.flow
  pub inputs : AreInputs fed.flow fed.inputs

-- the columns and rows that a statement gives
abbrev pub size_of : Statement → Option (ℕ × ℕ)
size_of (Grid columns rows) = Some (columns, rows)
size_of _ = None

-- the size of the grid: that of the first statement which gives one
abbrev pub size_in : List Statement → Option (ℕ × ℕ)
size_in said = slice_get (filter_map size_of said) 0

-- the name that a statement defines
abbrev pub name_of : Statement → Option (List ℕ)
name_of (Input name word) = Some name
name_of (Const name word) = Some name
name_of (Apply name op a b) = Some name
name_of _ = None

-- the names that are defined, in order
abbrev pub names_in : List Statement → List (List ℕ)
names_in said = filter_map name_of said

-- the number of the node with this name, where these names are defined
abbrev pub number_in : List (List ℕ) → List ℕ → Option ℕ
number_in names name = position (λ other. bytes_eq other name) names

-- the number of the node with this name, or 0 where none has it
abbrev pub node_number : List (List ℕ) → List ℕ → ℕ
node_number names name = unwrap_or (number_in names name) 0

-- the node that a statement defines, where these names are defined before it
abbrev pub node_of : List (List ℕ) → Statement → Option Node
node_of names (Input name word) = Some node.Input
node_of names (Const name word) = Some (node.Const word)
node_of names (Apply name op a b) = Some (node.Apply op (node_number names a) (node_number names b))
node_of names _ = None

-- the number of the node whose value a statement wants
abbrev pub out_of : List (List ℕ) → Statement → Option ℕ
out_of names (Out name) = Some (node_number names name)
out_of names _ = None

-- what statements give in order, each by the names that are defined before it
abbrev pub given_by : {X : Type 0} → (List (List ℕ) → Statement → Option X) → List (List ℕ) → List Statement → List X
given_by gives names [] = []
given_by gives names (statement ∷ said) = option_to_list (gives names statement) ++ given_by gives (names ++ option_to_list (name_of statement)) said

-- the nodes that are defined, in order
abbrev pub nodes_in : List Statement → List Node
nodes_in said = given_by node_of [] said

-- the numbers of the nodes whose values are wanted, in order
abbrev pub outs_in : List Statement → List ℕ
outs_in said = given_by out_of [] said

-- the word that a statement puts in
abbrev pub word_of : Statement → Option ℕ
word_of (Input name word) = Some word
word_of _ = None

-- the words that are put in, in order
abbrev pub words_in : List Statement → List ℕ
words_in said = filter_map word_of said

-- the flow that statements define on the grid that they give, with the words that they put in
unfoldable pub fed_by : List Statement → FedFlow
fed_by said = record {
  flow = record {
    cols = (unwrap_or (size_in said) (0, 0)).0;
    rows = (unwrap_or (size_in said) (0, 0)).1;
    nodes = nodes_in said;
    outs = outs_in said;
  };
  inputs = words_in said;
}
