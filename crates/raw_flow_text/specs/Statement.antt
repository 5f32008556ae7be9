-- What one line of a flow text says.
use Rattle.std.specs.Prelude.{ℕ, List}
use Rattle.raw_flow.specs.declared.node.FlowOp.{FlowOp}
use Rattle.raw_flow_text.specs.declared.line.Line.{Line}
use Rattle.raw_flow_text.specs.declared.line.Line.TheVariants as line

-- The columns and rows of the grid; a name for an input, with the word that is put in; a name for a constant word; a
-- name for an operation on the values of two names; a name whose value is wanted.
pub data Statement : Type 0 where
  Grid : ℕ → ℕ → Statement
  Input : List ℕ → ℕ → Statement
  Const : List ℕ → ℕ → Statement
  Apply : List ℕ → FlowOp → List ℕ → List ℕ → Statement
  Out : List ℕ → Statement

-- what a line says that was read
abbrev pub said_by : Line → Statement
said_by (line.Grid columns rows) = Grid columns rows
said_by (line.Input name word) = Input name.now word
said_by (line.Const name word) = Const name.now word
said_by (line.Apply name op a b) = Apply name.now op a.now b.now
said_by (line.Out name) = Out name.now
