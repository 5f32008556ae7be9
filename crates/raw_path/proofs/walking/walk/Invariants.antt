use Rattle.raw_grid.specs.Topology.{proc_count}
use Rattle.raw_path.specs.Known.{IsTold}
use Rattle.raw_path.proofs.Walks.{IsWalked}
use Rattle.raw_path.proofs.walking.walk.Given as goal

abbrev pub invariant-hops : goal.invariant-hops
invariant-hops l =
    IsTold (proc_count l.set.topo) l.fn.last.stalled l.told.stretches.items l.told
    × IsWalked l.set l.hops l.fn.last l.end l.told.stretches.items

abbrev pub decreases-hops : goal.decreases-hops
decreases-hops l = l.end.to
