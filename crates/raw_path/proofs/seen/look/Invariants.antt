use Rattle.std.proofs.Common.{◌≡◌, suc, ◌<◌, ℕ, length, Some}
use Rattle.std.specs.Prelude.{slice_get}
use Rattle.raw_grid.specs.Topology.{proc_count}
use Rattle.raw_path.specs.declared.seen.Seen.{Seen}
use Rattle.raw_path.specs.Known.{AreHops, AreKept, IsKnown}
use Rattle.raw_path.proofs.seen.look.Given as goal

abbrev pub invariant-procs : goal.invariant-procs
invariant-procs l =
    (l.p-end ≡ proc_count l.machine.set.topo)
    × (length l.next ≡ proc_count l.machine.set.topo)
    × AreKept l.fn.hops.items l.hops.items
    × AreHops l.machine.set l.hops.items
    × ((q : ℕ) (s : Seen) → q < l.p → slice_get l.next q ≡ Some s → IsKnown l.machine.set l.hops.items (suc l.cycles) q s)
