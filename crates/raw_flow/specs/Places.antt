-- Which tiles have which values.
use Rattle.std.specs.Prelude.{◌≡◌, ℕ, ◌+◌, ◌*◌, ◌<◌, Bool, false, ◌&&◌, ◌==◌, List, ◌∷◌, length, slice_index_or}
use Rattle.std.specs.List.{list_any}
use Rattle.raw_grid.specs.declared.limits.TheConstants.{MAX_TILES}
use Rattle.raw_flow.specs.Flows.{Dataflow}

-- a tile has the value of a node
pub record Holding : Type 0 where
  pub value : ℕ
  pub tile : ℕ

abbrev pub is_holding : ℕ → ℕ → Holding → Bool
is_holding v t holding = (holding.value == v) && (holding.tile == t)

-- tile t has the value of node v
abbrev pub has : List Holding → ℕ → ℕ → Bool
has held v t = list_any (is_holding v t) held

-- tile t has the value of node v too
abbrev pub with_value : List Holding → ℕ → ℕ → List Holding
with_value held v t = record { value = v; tile = t } ∷ held

-- a row of marks for each node, with one for each tile that a grid may have: the mark of a tile is set where it has the value
pub record AreMarks (flow : Dataflow) (marks : List Bool) (held : List Holding) : Type 0 where
  pub size : length marks ≡ length flow.nodes * MAX_TILES
  pub at : (v t : ℕ) → t < MAX_TILES → v * MAX_TILES + t < length marks → slice_index_or marks (v * MAX_TILES + t) false ≡ has held v t
