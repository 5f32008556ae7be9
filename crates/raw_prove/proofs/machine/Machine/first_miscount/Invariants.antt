use Rattle.std.proofs.Common.{◌≡◌, map, drop}
use Rattle.raw_term.specs.Seen.{miscount_from}
use Rattle.raw_prove.specs.Units.{local_of}
use Rattle.raw_prove.proofs.machine.Machine.first_miscount.Given as goal

abbrev pub invariant-loop-p : goal.invariant-loop-p
invariant-loop-p l = miscount_from l.places l.p (map local_of (drop l.p l.self.units.items)) ≡ miscount_from l.places 0 (map local_of l.self.units.items)
