use Rattle.std.proofs.Common.{◌≡◌, map}
use Rattle.std.specs.List.{range_with_len}
use Rattle.raw_generated.specs.Generated.{tile_program}
use Rattle.raw_generated.proofs.tiles.tile_programs.Given as goal

abbrev pub invariant-loop-t : goal.invariant-loop-t
invariant-loop-t l = l.tiles.items ≡ map (tile_program l.n) (range_with_len 0 l.t)
