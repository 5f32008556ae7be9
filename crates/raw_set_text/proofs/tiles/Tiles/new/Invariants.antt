use Rattle.std.proofs.Common.{◌≡◌, ℕ, length, Some}
use Rattle.std.specs.List.{slice_get}
use Rattle.raw_set_text.specs.declared.tile_parts.TileParts.{TileParts}
use Rattle.raw_set_text.specs.Tiling.{IsBlank}
use Rattle.raw_set_text.proofs.tiles.Tiles.new.Given as goal

abbrev pub invariant-loop : goal.invariant-loop
invariant-loop l = record {
  many : length l.parts.items ≡ l.counter;
  blank : (t : ℕ) (parts : TileParts) → slice_get l.parts.items t ≡ Some parts → IsBlank parts;
}
