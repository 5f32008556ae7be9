use Rattle.std.proofs.Common.{◌≡◌}
use Rattle.raw_grid.specs.Topology.{proc_count}
use Rattle.raw_lost.specs.Known.{AreKinds}
use Rattle.raw_lost.proofs.Counts.{AreNoted}
use Rattle.raw_lost.proofs.counting.note_cycle.Given as goal

abbrev pub invariant-all : goal.invariant-all
invariant-all l =
    (l.p-end ≡ proc_count l.fn.set.topo)
    × AreNoted l.fn.set l.fn.cycles l.p l.lost
    × AreKinds l.fn.set l.fn.cycles l.kinds
