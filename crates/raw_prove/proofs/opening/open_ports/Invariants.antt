use Rattle.raw_grid.specs.declared.parts.PortPlace.{PortPlace}
use Rattle.raw_model.specs.Start.{first_port}
use Rattle.raw_prove.proofs.Starting.{GrowsSo, NumbersSo}
use Rattle.raw_prove.proofs.opening.open_ports.Given as goal

abbrev pub invariant-loop-i : goal.invariant-loop-i
invariant-loop-i l =
    GrowsSo l.set (λ (place : PortPlace). first_port place.kind) l.set.topo.places l.initial.units.items l.units.items l.i × NumbersSo l.set l.first l.i
