-- How a line of a plan reads by itself.
use Rattle.std.specs.Prelude.{ℕ, Bool, ◌==◌, List, [], ◌∷◌, length, drop, codes, Option, Some, None, nat_lt, slice_index_or, if◌then◌else◌}
use Rattle.std.specs.Str.{bytes_eq}
use Rattle.raw_text.specs.Number.{number_of}
use Rattle.raw_grid.specs.declared.parts.Net.{Net}
use Rattle.raw_grid.specs.Names.{net_named}
use Rattle.raw_set_text.specs.Forms.{◌>>=◌}
use Rattle.raw_plan_text.specs.declared.tile.Tile.{Tile}

-- a word that goes from a tile to others, on a network
pub record Sent : Type 0 where
  pub net : Net
  pub from : Tile
  pub word : ℕ
  pub to : List Tile

-- what a line declares: the columns and the rows, or a word that is sent
pub data Entry : Type 0 where
  Grid : ℕ → ℕ → Entry
  Send : Sent → Entry

-- two tokens as a column and a row
unfoldable pub tile_of : List ℕ → List ℕ → Option Tile
tile_of column row = do
  x ← number_of column
  y ← number_of row
  Some (record { x = x; y = y })

-- all of the tokens, two by two, as columns and rows
abbrev pub tiles_of : List (List ℕ) → Option (List Tile)
tiles_of [] = Some []
tiles_of (column ∷ []) = None
tiles_of (column ∷ row ∷ tokens) = do
  tile ← tile_of column row
  tiles ← tiles_of tokens
  Some (tile ∷ tiles)

-- the rest of a line that begins with `grid`: C R
unfoldable pub grid_entry : List (List ℕ) → Option Entry
grid_entry operands =
    if length operands == 2 then
    (number_of (slice_index_or operands 0 []) >>= λ columns. number_of (slice_index_or operands 1 []) >>= λ rows. Some (Grid columns rows)) else None

-- `send`: NET X Y W and one pair X Y or more
unfoldable pub send_entry : List (List ℕ) → Option Entry
send_entry operands =
    if nat_lt 4 (length operands) then
    (net_named (slice_index_or operands 0 []) >>= λ net. tile_of (slice_index_or operands 1 []) (slice_index_or operands 2 []) >>= λ from.
    number_of (slice_index_or operands 3 []) >>= λ word. tiles_of (drop 4 operands) >>= λ to.
    Some (Send (record { net = net; from = from; word = word; to = to }))) else None

-- a line begins with `grid`
abbrev pub is_grid : List (List ℕ) → Bool
is_grid line = bytes_eq (slice_index_or line 0 []) (codes "grid")

-- and with `send`
abbrev pub is_send : List (List ℕ) → Bool
is_send line = bytes_eq (slice_index_or line 0 []) (codes "send")

-- what a line declares by itself; nothing where its first word is another or the line is of another form
unfoldable pub line_entry : List (List ℕ) → Option Entry
line_entry line = if is_grid line then grid_entry (drop 1 line) else (if is_send line then send_entry (drop 1 line) else None)
