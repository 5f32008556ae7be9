use Rattle.raw_prove.specs.Units.{AreUnits}
use Rattle.raw_prove.proofs.Starting.{TilesSo}
use Rattle.raw_prove.proofs.opening.open_tiles.Given as goal

abbrev pub invariant-loop-program : goal.invariant-loop-program
invariant-loop-program l = TilesSo l.initial.table l.set.tiles l.table l.units.items l.program-index × AreUnits l.set l.units.items
