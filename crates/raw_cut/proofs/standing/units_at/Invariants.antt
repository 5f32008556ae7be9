use Rattle.std.proofs.Common.{◌≡◌, map, take}
use Rattle.raw_prove.specs.Units.{local_of}
use Rattle.raw_cut.specs.Cuts.{local_at}
use Rattle.raw_cut.specs.Parts.{uncounted}
use Rattle.raw_cut.proofs.standing.units_at.Given as goal

abbrev pub invariant-loop-unit : goal.invariant-loop-unit
invariant-loop-unit l = map local_at l.cuts.items ≡ map uncounted (map local_of (take l.unit-index l.units))
