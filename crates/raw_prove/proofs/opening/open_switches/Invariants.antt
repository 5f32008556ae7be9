use Rattle.raw_model.specs.Program.{TileProgram}
use Rattle.raw_model.specs.Local.{Switch}
use Rattle.raw_model.specs.Start.{first_switch}
use Rattle.raw_prove.proofs.Starting.{GrowsSo}
use Rattle.raw_prove.proofs.opening.open_switches.Given as goal

abbrev pub invariant-loop-program : goal.invariant-loop-program
invariant-loop-program l =
    GrowsSo l.set (λ (tile : TileProgram). Switch (first_switch tile.switch)) l.set.tiles l.initial.units.items l.units.items l.program-index
