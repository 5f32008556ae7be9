-- Where the words of the inputs of a row stand among all words of the sources: the number of that of row 0, and how far apart those of two rows
-- are. The k-th word, counted from 0, has the number 1 + k.
use Rattle.std.specs.Prelude.{ℕ, ◌+◌, ◌*◌, List, [], ◌∷◌}
use Rattle.raw_stream.specs.declared.row_node.RowNode.{RowNode}
use Rattle.raw_stream.specs.declared.row_node.RowNode.TheVariants.{Input, Const, Apply, Pre}
use Rattle.raw_stream.specs.Streams.{Stream}
use Rattle.raw_stream.specs.Unrolled.{width, word_place}
use Rattle.raw_row_terms.specs.declared.runs.WordRun.{WordRun}

abbrev pub runs_from : Stream → ℕ → List RowNode → List WordRun
runs_from s v [] = []
runs_from s v (Input q ∷ nodes) = record { first = 1 + word_place s 0 q v; step = width s q } ∷ runs_from s (v + 1) nodes
runs_from s v (Const word ∷ nodes) = runs_from s (v + 1) nodes
runs_from s v (Apply op a b ∷ nodes) = runs_from s (v + 1) nodes
runs_from s v (Pre a word ∷ nodes) = runs_from s (v + 1) nodes

-- the number of the word of row r
abbrev pub number_in : ℕ → WordRun → ℕ
number_in r run = run.first + r * run.step
