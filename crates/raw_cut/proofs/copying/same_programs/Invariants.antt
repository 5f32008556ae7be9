use Rattle.std.proofs.Common.{◌≡◌, take}
use Rattle.raw_cut.proofs.copying.same_programs.Given as goal

abbrev pub invariant-loop-tile : goal.invariant-loop-tile
invariant-loop-tile l = l.copy.items ≡ take l.tile-index l.tiles
