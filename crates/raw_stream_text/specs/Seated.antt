-- Edges with a map of their numbers.
use Rattle.std.specs.Prelude.{◌≡◌, ℕ, ◌<◌, ◌^◌, List}
use Rattle.std.specs.HashMap.{HashMap, get}
use Rattle.raw_set_text.specs.declared.declaration.Edge.{Edge}
use Rattle.raw_stream_text.specs.Edges.{Key, key_of, same_key, edge_number}

-- the map has the number of each edge
abbrev pub AreSeats : {S : Type 0} → List Edge → HashMap Key ℕ S → Type 0
AreSeats edges numbers = (edge : Edge) → get same_key numbers (key_of edge) ≡ edge_number edges edge

-- the column and the row of the tile are those of a grid of some size
pub record IsNear (edge : Edge) : Type 0 where
  pub column : edge.tile.x < 2 ^ 8
  pub row : edge.tile.y < 2 ^ 8
