use Rattle.std.proofs.Common.{◌≡◌, ◌≤◌, length}
use Rattle.raw_grid.specs.Topology.{proc_count}
use Rattle.raw_whole.proofs.Stepped.{IsStepped}
use Rattle.raw_lost.specs.Known.{AreLost}
use Rattle.raw_lost.proofs.counting.count_cycles.Given as goal

abbrev pub invariant-cycles : goal.invariant-cycles
invariant-cycles l =
    (l.k ≤ l.fn.cycles)
    × IsStepped l.fn.machine.set l.k l.machine l.account l.passed
    × AreLost l.fn.machine.set l.k l.lost
    × (length l.kinds ≡ proc_count l.fn.machine.set.topo)
