-- The stream that statements define together.
use Rattle.std.specs.Prelude.{ℕ, ◌==◌, List, [], Option, Some, None, length, slice_get, unwrap_or, if◌then◌else◌}
use Rattle.std.specs.List.{filter_map, flat_map, range_with_len}
use Rattle.raw_grid.specs.declared.parts.PortKind.TheVariants as kind
use Rattle.raw_set_text.specs.declared.declaration.Edge.{Edge}
use Rattle.raw_flow_text.specs.Statement.Statement.{Const as FlowConst, Apply as FlowApply}
use Rattle.raw_flow_text.specs.Flows.{node_number}
use Rattle.raw_flow_text.specs.Flows as flow_text
use Rattle.raw_stream.specs.declared.out.StreamOut.{StreamOut}
use Rattle.raw_stream.specs.declared.row_node.RowNode.{RowNode}
use Rattle.raw_stream.specs.declared.row_node.RowNode.TheVariants as node
use Rattle.raw_stream.specs.Streams.{Stream}
use Rattle.raw_stream_text.specs.Edges.{port_number, each_once, places_of}
use Rattle.raw_stream_text.specs.Statement.{Statement}
use Rattle.raw_stream_text.specs.Statement.Statement.{Flow, Rows, Input, Pre, Out, Feed}

-- a stream, and the words of its sources, one source behind the other
pub record FedStream : Type 0 where
  pub stream : Stream
  pub words : List ℕ

-- the columns and rows of the grid that a statement gives, and what the first one gives which does
abbrev pub size_of : Statement → Option (ℕ × ℕ)
size_of (Flow said) = flow_text.size_of said
size_of _ = None

abbrev pub size_in : List Statement → Option (ℕ × ℕ)
size_in said = slice_get (filter_map size_of said) 0

-- how many rows a statement gives, and what the first one gives which does
abbrev pub count_of : Statement → Option ℕ
count_of (Rows count) = Some count
count_of _ = None

abbrev pub count_in : List Statement → Option ℕ
count_in said = slice_get (filter_map count_of said) 0

-- the name that a statement defines
abbrev pub name_of : Statement → Option (List ℕ)
name_of (Flow (FlowConst name word)) = Some name
name_of (Flow (FlowApply name op a b)) = Some name
name_of (Input name edge) = Some name
name_of (Pre name a word) = Some name
name_of _ = None

-- the names that are defined, in order: the node of a name has the number of the name
abbrev pub names_in : List Statement → List (List ℕ)
names_in said = filter_map name_of said

-- the edge whose source a statement names, and that whose sink it names
abbrev pub source_of : Statement → Option Edge
source_of (Input name edge) = Some edge
source_of _ = None

abbrev pub sink_of : Statement → Option Edge
sink_of (Out name edge) = Some edge
sink_of _ = None

-- the edges of the sources and those of the sinks, in the order in which they are first named
abbrev pub sources_in : List Statement → List Edge
sources_in said = each_once [] (filter_map source_of said)

abbrev pub sinks_in : List Statement → List Edge
sinks_in said = each_once [] (filter_map sink_of said)

-- the node that a statement defines, where all statements define these names, and name these sources
abbrev pub node_of : List (List ℕ) → List Edge → Statement → Option RowNode
node_of names sources (Flow (FlowConst name word)) = Some (node.Const word)
node_of names sources (Flow (FlowApply name op a b)) = Some (node.Apply op (node_number names a) (node_number names b))
node_of names sources (Input name edge) = Some (node.Input (port_number sources edge))
node_of names sources (Pre name a word) = Some (node.Pre (node_number names a) word)
node_of names sources _ = None

abbrev pub nodes_in : List Statement → List RowNode
nodes_in said = filter_map (node_of (names_in said) (sources_in said)) said

-- what a statement gives to a sink
abbrev pub out_of : List (List ℕ) → List Edge → Statement → Option StreamOut
out_of names sinks (Out name edge) = Some (record { port = port_number sinks edge; node = node_number names name })
out_of names sinks _ = None

abbrev pub outs_in : List Statement → List StreamOut
outs_in said = filter_map (out_of (names_in said) (sinks_in said)) said

-- what a statement feeds: the number of the source among these, and its words
abbrev pub feed_of : List Edge → Statement → Option (ℕ × List ℕ)
feed_of sources (Feed edge words) = Some (port_number sources edge, words)
feed_of sources _ = None

abbrev pub feeds_in : List Statement → List (ℕ × List ℕ)
feeds_in said = filter_map (feed_of (sources_in said)) said

-- the words of the source of this number, among what is fed
abbrev pub words_at : ℕ → ℕ × List ℕ → List ℕ
words_at q fed = if fed.0 == q then fed.1 else []

abbrev pub words_to : List (ℕ × List ℕ) → ℕ → List ℕ
words_to feeds q = flat_map (words_at q) feeds

-- the words of so many sources, one source behind the other
abbrev pub words_of_all : List (ℕ × List ℕ) → ℕ → List ℕ
words_of_all feeds sources = flat_map (words_to feeds) (range_with_len 0 sources)

-- the stream that statements define on the grid that they give, with the words of its sources
unfoldable pub stream_by : List Statement → Stream
stream_by said = record {
  cols = (unwrap_or (size_in said) (0, 0)).0;
  rows = (unwrap_or (size_in said) (0, 0)).1;
  count = unwrap_or (count_in said) 0;
  sources = places_of kind.Source (sources_in said);
  sinks = places_of kind.Sink (sinks_in said);
  nodes = nodes_in said;
  outs = outs_in said;
}

unfoldable pub fed_by : List Statement → FedStream
fed_by said = record { stream = stream_by said; words = words_of_all (feeds_in said) (length (sources_in said)) }
