use Rattle.std.proofs.Common.{◌≡◌, ◌++◌, map, drop}
use Rattle.std.specs.List.{flat_map}
use Rattle.raw_prove.specs.Units.{local_of}
use Rattle.raw_prove.proofs.machine.Machine.received.Given as goal
use Rattle.raw_model.specs.Parts.{got_by}

abbrev pub invariant-loop-unit : goal.invariant-loop-unit
invariant-loop-unit l =
    l.got.items ++ flat_map got_by (map local_of (drop l.unit-index l.self.units.items)) ≡ flat_map got_by (map local_of l.self.units.items)
