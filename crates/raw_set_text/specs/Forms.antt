-- How a line outside sections reads by itself.
use Rattle.std.specs.Prelude.{ℕ, ◌+◌, ◌%◌, ◌&&◌, ◌==◌, List, [], ◌∷◌, length, drop, codes, Option, Some, None, nat_lt, slice_index_or, if◌then◌else◌}
use Rattle.std.specs.Option.{is_some}
use Rattle.std.specs.List.{find, filter_map, list_all}
use Rattle.std.specs.Str.{bytes_eq}
use Rattle.raw_text.specs.Number.{number_of}
use Rattle.raw_grid.specs.declared.parts.PortKind.TheVariants as kind
use Rattle.raw_grid.specs.Names.{net_named, side_named}
use Rattle.raw_set_text.specs.declared.word.Word.{Word}
use Rattle.raw_set_text.specs.declared.word.Word.TheVariants as word
use Rattle.raw_set_text.specs.declared.declaration.Position.{Position}
use Rattle.raw_set_text.specs.declared.declaration.Edge.{Edge}
use Rattle.raw_set_text.specs.Entry.{Entry, Grid, Limit, Depth, Port, Feed, Data, Misses, Show, Tile, Switch, place_of}

-- the value goes on, if there is one
infixl 10 ◌>>=◌
abbrev pub ◌>>=◌ : {A B : Type 0} → Option A → (A → Option B) → Option B
None >>= f = None
(Some x) >>= f = f x

-- how a word is written
abbrev pub word_name : Word → List ℕ
word_name word.Grid = codes "grid"
word_name word.Limit = codes "limit"
word_name word.Depth = codes "depth"
word_name word.Source = codes "source"
word_name word.Sink = codes "sink"
word_name word.Feed = codes "feed"
word_name word.Data = codes "data"
word_name word.Misses = codes "misses"
word_name word.Show = codes "show"
word_name word.Tile = codes "tile"
word_name word.Switch = codes "switch"

abbrev pub all_words : List Word
all_words = word.Grid ∷ word.Limit ∷ word.Depth ∷ word.Source ∷ word.Sink ∷ word.Feed ∷ word.Data ∷ word.Misses ∷ word.Show ∷ word.Tile ∷ word.Switch ∷ []

-- the word that a token is
unfoldable pub word_named : List ℕ → Option Word
word_named token = find (λ w. bytes_eq token (word_name w)) all_words

-- the operand at a place, as a number
unfoldable pub number_at : List (List ℕ) → ℕ → Option ℕ
number_at operands i = number_of (slice_index_or operands i [])

-- the two operands from a place on, as a column and a row
unfoldable pub position_at : List (List ℕ) → ℕ → Option Position
position_at operands i = do
  x ← number_at operands i
  y ← number_at operands (i + 1)
  Some (record { x = x; y = y })

-- the first four operands, as a network, a column, a row and a side
unfoldable pub edge_in : List (List ℕ) → Option Edge
edge_in operands = do
  net ← net_named (slice_index_or operands 0 [])
  tile ← position_at operands 1
  side ← side_named (slice_index_or operands 3 [])
  Some (record { net = net; tile = tile; side = side })

-- all of them as numbers
unfoldable pub numbers_of : List (List ℕ) → Option (List ℕ)
numbers_of tokens = if list_all (λ token. is_some (number_of token)) tokens then Some (filter_map number_of tokens) else None

-- the rest of a line that begins with `grid`: C R
unfoldable pub grid_entry : List (List ℕ) → Option Entry
grid_entry operands = if length operands == 2 then (number_at operands 0 >>= λ columns. number_at operands 1 >>= λ rows. Some (Grid columns rows)) else None

-- `limit`: N
unfoldable pub limit_entry : List (List ℕ) → Option Entry
limit_entry operands = if length operands == 1 then (number_at operands 0 >>= λ n. Some (Limit n)) else None

-- `depth`: N
unfoldable pub depth_entry : List (List ℕ) → Option Entry
depth_entry operands = if length operands == 1 then (number_at operands 0 >>= λ n. Some (Depth n)) else None

-- `source`: NET X Y SIDE
unfoldable pub source_entry : List (List ℕ) → Option Entry
source_entry operands = if length operands == 4 then (edge_in operands >>= λ edge. Some (Port (place_of kind.Source edge) 0)) else None

-- `sink`: NET X Y SIDE N
unfoldable pub sink_entry : List (List ℕ) → Option Entry
sink_entry operands = if length operands == 5 then (edge_in operands >>= λ edge. number_at operands 4 >>= λ n. Some (Port (place_of kind.Sink edge) n)) else None

-- `feed`: NET X Y SIDE and one word or more
unfoldable pub feed_entry : List (List ℕ) → Option Entry
feed_entry operands = if nat_lt 4 (length operands) then (edge_in operands >>= λ edge. numbers_of (drop 4 operands) >>= λ words. Some (Feed (place_of kind.Source edge) words)) else None

-- `data`: X Y, an address that is a multiple of 4, and one word or more
unfoldable pub data_entry : List (List ℕ) → Option Entry
data_entry operands =
    if nat_lt 3 (length operands) then (position_at operands 0 >>= λ tile. number_at operands 2 >>= λ address. numbers_of (drop 3 operands) >>= λ words.
    (if address % 4 == 0 then Some (Data tile address words) else None)) else None

-- `misses`: X Y and one number or more
unfoldable pub misses_entry : List (List ℕ) → Option Entry
misses_entry operands = if nat_lt 2 (length operands) then (position_at operands 0 >>= λ tile. numbers_of (drop 2 operands) >>= λ turns. Some (Misses tile turns)) else None

-- `show`: X Y, an address that is a multiple of 4, and how many words, at least one
unfoldable pub show_entry : List (List ℕ) → Option Entry
show_entry operands =
    if length operands == 4 then (position_at operands 0 >>= λ tile. number_at operands 2 >>= λ address. number_at operands 3 >>= λ words.
    (if (address % 4 == 0) && nat_lt 0 words then Some (Show tile address words) else None)) else None

-- `tile`: X Y
unfoldable pub tile_entry : List (List ℕ) → Option Entry
tile_entry operands = if length operands == 2 then (position_at operands 0 >>= λ tile. Some (Tile tile [])) else None

-- `switch`: X Y
unfoldable pub switch_entry : List (List ℕ) → Option Entry
switch_entry operands = if length operands == 2 then (position_at operands 0 >>= λ tile. Some (Switch tile [])) else None

-- what a word declares with these operands
abbrev pub worded_entry : Word → List (List ℕ) → Option Entry
worded_entry word.Grid operands = grid_entry operands
worded_entry word.Limit operands = limit_entry operands
worded_entry word.Depth operands = depth_entry operands
worded_entry word.Source operands = source_entry operands
worded_entry word.Sink operands = sink_entry operands
worded_entry word.Feed operands = feed_entry operands
worded_entry word.Data operands = data_entry operands
worded_entry word.Misses operands = misses_entry operands
worded_entry word.Show operands = show_entry operands
worded_entry word.Tile operands = tile_entry operands
worded_entry word.Switch operands = switch_entry operands

-- what a line declares by itself; nothing where its first word is unknown or the line is of another form
unfoldable pub line_entry : List (List ℕ) → Option Entry
line_entry line = word_named (slice_index_or line 0 []) >>= λ word. worded_entry word (drop 1 line)
