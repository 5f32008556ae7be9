-- Tiles that are given nothing yet.
use Rattle.std.proofs.Common.{◌≡◌, ℕ, ◌*◌, [], ◌∷◌, length, Some, refl, ap, arith}
use Rattle.std.specs.Option.{option_map}
use Rattle.std.specs.List.{slice_get}
use Rattle.raw_set_text.specs.declared.tile_parts.TileParts.{TileParts}
use Rattle.raw_set_text.specs.declared.tiles.Tiles.{Tiles}
use Rattle.raw_set_text.specs.Entry.Entry.{Grid}
use Rattle.raw_set_text.specs.Entries.{topology_of}
use Rattle.raw_set_text.specs.Building.{TileStands, TilesStand}
use Rattle.raw_set_text.specs.Tiling.{IsBlank}

blank_stands : (parts : TileParts) (columns rows t : ℕ) → IsBlank parts → TileStands parts (Grid columns rows ∷ []) t
blank_stands parts columns rows t blank = record {
  code = ap (option_map (λ code. code.items)) blank.code;
  switch = ap (option_map (λ code. code.items)) blank.switch;
  memory = λ i h. blank.memory i;
  misses = blank.misses;
}

-- a grid of tiles that are given nothing
pub tiles_blank : (tiles : Tiles) (columns rows : ℕ) → length tiles.parts.items ≡ columns * rows → ((t : ℕ) (parts : TileParts) → slice_get tiles.parts.items t ≡ Some parts → IsBlank parts) → tiles.cells ≡ 0 → tiles.turns ≡ 0 → tiles.instructions ≡ 0 → tiles.routed ≡ 0 → TilesStand tiles (Grid columns rows ∷ [])
unfolding topology_of
tiles_blank tiles columns rows many blank cells turns instructions routed = record {
  sized = omega arith;
  count = many;
  each = λ t parts h. blank_stands parts columns rows t (blank t parts h);
  cells = cells;
  turns = turns;
  instructions = instructions;
  routed = routed;
  inside = λ t address h. refl;
}
