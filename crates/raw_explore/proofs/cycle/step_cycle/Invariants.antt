use Rattle.std.proofs.Common.{◌≡◌, ◌≤◌, ◌++◌, ℕ, slice_index}
use Rattle.std.specs.List.{filter, range_with_len}
use Rattle.raw_network.specs.Network.{is_enabled}
use Rattle.raw_grid.specs.Topology.{proc_count}
use Rattle.raw_clock.specs.Clock.{clocked, clock, clock_turns}
use Rattle.raw_clock.specs.Engine.{HasTaken}
use Rattle.raw_explore.proofs.cycle.step_cycle.Given as goal

abbrev pub invariant-procs : goal.invariant-procs
invariant-procs l =
    (l.count ≡ proc_count l.fn.machine.set.topo)
    × (l.machine.set ≡ l.fn.machine.set)
    × ((q : ℕ) → l.p ≤ q → slice_index l.machine.owed q ≡ slice_index l.fn.machine.owed q)
    × HasTaken l.fn.machine.set l.machine
    (clock_turns l.fn.machine.set l.fn.k
    ++ filter (λ p. is_enabled (clocked l.fn.machine.set) (clock l.fn.machine.set l.fn.k) p) (range_with_len 0 l.p))
