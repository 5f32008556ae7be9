-- How a line of the text of a stream reads by itself.
use Rattle.std.specs.Prelude.{ℕ, Bool, ◌==◌, ◌&&◌, List, [], ◌∷◌, length, drop, codes, Option, Some, None, nat_lt, slice_index_or, option_map, if◌then◌else◌}
use Rattle.std.specs.Str.{bytes_eq}
use Rattle.raw_asm.specs.NameTable.{named_in}
use Rattle.raw_grid.specs.declared.parts.Net.TheVariants.{One}
use Rattle.raw_grid.specs.declared.parts.Side.TheVariants.{W}
use Rattle.raw_set_text.specs.declared.declaration.Edge.{Edge}
use Rattle.raw_set_text.specs.Forms.{◌>>=◌, number_at, edge_in, numbers_of}
use Rattle.raw_flow_text.specs.Forms as flow
use Rattle.raw_stream_text.specs.declared.word.Word.{Word}
use Rattle.raw_stream_text.specs.declared.word.Word.TheVariants as word
use Rattle.raw_stream_text.specs.Statement.{Statement}
use Rattle.raw_stream_text.specs.Statement.Statement.{Flow, Rows, Input, Pre, Out, Feed}

-- how the words are written with which lines begin that no flow has, or that say more than in a flow
abbrev pub word_name : Word → List ℕ
word_name word.Rows = codes "rows"
word_name word.Input = codes "input"
word_name word.Out = codes "out"
word_name word.Feed = codes "feed"

abbrev pub all_words : List Word
all_words = word.Rows ∷ word.Input ∷ word.Out ∷ word.Feed ∷ []

-- the edge of a source or sink for which none is said: 1 0 0 W
abbrev pub usual_edge : Edge
usual_edge = record { net = One; tile = record { x = 0; y = 0 }; side = W }

-- the edge behind a name, where one is said: NET X Y SIDE
unfoldable pub edge_behind : List (List ℕ) → Option Edge
edge_behind operands = if length operands == 1 then Some usual_edge else (if length operands == 5 then edge_in (drop 1 operands) else None)

-- the rest of a line that begins with `rows`: N
unfoldable pub rows_form : List (List ℕ) → Option Statement
rows_form operands = if length operands == 1 then (number_at operands 0 >>= λ count. Some (Rows count)) else None

-- `input`: NAME, or NAME NET X Y SIDE
unfoldable pub input_form : List (List ℕ) → Option Statement
input_form operands = edge_behind operands >>= λ edge. flow.name_at operands 0 >>= λ name. Some (Input name edge)

-- `out`: NAME, or NAME NET X Y SIDE
unfoldable pub out_form : List (List ℕ) → Option Statement
out_form operands = edge_behind operands >>= λ edge. flow.name_at operands 0 >>= λ name. Some (Out name edge)

-- `feed`: NET X Y SIDE and one word or more
unfoldable pub feed_form : List (List ℕ) → Option Statement
feed_form operands =
    if nat_lt 4 (length operands) then (edge_in operands >>= λ edge. numbers_of (drop 4 operands) >>= λ words. Some (Feed edge words)) else None

-- what a word says with these operands
abbrev pub worded_form : Word → List (List ℕ) → Option Statement
worded_form word.Rows operands = rows_form operands
worded_form word.Input operands = input_form operands
worded_form word.Out operands = out_form operands
worded_form word.Feed operands = feed_form operands

-- a line is a `def` of a `pre`, of any form: def NAME pre A W
abbrev pub is_pre : List (List ℕ) → Bool
is_pre line = (length line == 5) && (bytes_eq (slice_index_or line 0 []) (codes "def") && bytes_eq (slice_index_or line 2 []) (codes "pre"))

-- the rest of such a line: NAME pre A W
unfoldable pub pre_form : List (List ℕ) → Option Statement
pre_form operands = flow.name_at operands 0 >>= λ name. flow.name_at operands 2 >>= λ a. number_at operands 3 >>= λ word. Some (Pre name a word)

-- any other line says what it says in a flow
abbrev pub other_form : List (List ℕ) → Option Statement
other_form line = if is_pre line then pre_form (drop 1 line) else option_map Flow (flow.line_statement line)

-- what a line says, whose first word is one of those above, or none
abbrev pub stated : Option Word → List (List ℕ) → Option Statement
stated (Some word) line = worded_form word (drop 1 line)
stated None line = other_form line

-- what a line says; nothing where its first word is unknown or the line is of another form
unfoldable pub line_statement : List (List ℕ) → Option Statement
line_statement line = stated (named_in word_name all_words (slice_index_or line 0 [])) line
