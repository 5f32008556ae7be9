-- The words that ports give of rows. Ports are numbered as those of the set, in the inputs and in the outs of the stream.
use Rattle.std.specs.Prelude.{ℕ, ◌==◌, List, [], ◌∷◌, ◌++◌, take, drop, sum_by, if◌then◌else◌}
use Rattle.std.specs.List.{flat_map}
use Rattle.raw_stream.specs.declared.row_node.RowNode.{RowNode}
use Rattle.raw_stream.specs.declared.row_node.RowNode.TheVariants.{Input, Const, Apply, Pre}
use Rattle.raw_stream.specs.Streams.{Stream}

-- how many words a node takes, and how many a row has
abbrev pub takes_words : RowNode → ℕ
takes_words (Input q) = 1
takes_words _ = 0

abbrev pub row_width : Stream → ℕ
row_width s = sum_by takes_words s.nodes

-- those words of a row that port q gives
abbrev pub part : ℕ → List RowNode → List ℕ → List ℕ
part q [] words = []
part q (Input p ∷ nodes) words = (if p == q then take 1 words else []) ++ part q nodes (drop 1 words)
part q (Const word ∷ nodes) words = part q nodes words
part q (Apply op a b ∷ nodes) words = part q nodes words
part q (Pre a word ∷ nodes) words = part q nodes words

-- all words that port q gives, row by row
abbrev pub given_by : Stream → ℕ → List (List ℕ) → List ℕ
given_by s q rows = flat_map (part q s.nodes) rows
