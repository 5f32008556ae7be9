use Rattle.std.proofs.Common.{◌≡◌, ◌<◌, ◌≤◌, ◌-◌, ◌^◌, ℕ, length}
use Rattle.raw_grid.specs.Topology.{proc_count}
use Rattle.raw_clock.specs.Clock.{clock, GoesOn}
use Rattle.raw_whole.proofs.Stepped.{IsStepped}
use Rattle.raw_path.specs.Known.{AreKnown, AreHops}
use Rattle.raw_path.proofs.running.run_seen.Given as goal

abbrev pub invariant-cycles : goal.invariant-cycles
invariant-cycles l =
    IsStepped l.fn.machine.set l.cycles l.machine l.account l.passed
    × ((k : ℕ) → k < l.cycles → GoesOn l.fn.machine.set (clock l.fn.machine.set k))
    × AreKnown l.fn.machine.set l.hops.items l.cycles l.seen
    × AreHops l.fn.machine.set l.hops.items
    × (length l.next ≡ proc_count l.fn.machine.set.topo)
    × (l.cycles ≤ 2 ^ 40)

abbrev pub decreases-cycles : goal.decreases-cycles
decreases-cycles l = 2 ^ 41 - l.cycles
