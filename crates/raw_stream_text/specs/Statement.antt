-- What one line of the text of a stream says.
use Rattle.std.specs.Prelude.{ℕ, List}
use Rattle.raw_set_text.specs.declared.declaration.Edge.{Edge}
use Rattle.raw_flow_text.specs.Statement.{Statement as FlowStatement, said_by as said_by_flow}
use Rattle.raw_stream_text.specs.declared.line.Line.{Line}
use Rattle.raw_stream_text.specs.declared.line.Line.TheVariants as line

-- What the line of a flow says: the grid, a constant or an operation; how many rows there are; a name for the next word of the source at an edge;
-- a name for what another one was in the row before, with its word in the first row; a name whose value goes to the sink at an edge; words for the
-- source at an edge.
pub data Statement : Type 0 where
  Flow : FlowStatement → Statement
  Rows : ℕ → Statement
  Input : List ℕ → Edge → Statement
  Pre : List ℕ → List ℕ → ℕ → Statement
  Out : List ℕ → Edge → Statement
  Feed : Edge → List ℕ → Statement

-- what a line says that was read
abbrev pub said_by : Line → Statement
said_by (line.Flow said) = Flow (said_by_flow said)
said_by (line.Rows count) = Rows count
said_by (line.Input name edge) = Input name.now edge
said_by (line.Pre name a word) = Pre name.now a.now word
said_by (line.Out name edge) = Out name.now edge
said_by (line.Feed edge words) = Feed edge words.items
