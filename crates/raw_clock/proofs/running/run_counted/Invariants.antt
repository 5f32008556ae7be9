use Rattle.std.proofs.Common.{◌≡◌, ◌<◌, ◌≤◌, ◌-◌, ◌*◌, ◌^◌, ℕ, slice_index}
use Rattle.raw_grid.specs.Topology.{proc_count}
use Rattle.raw_clock.specs.Clock.{clock, clock_turns, GoesOn}
use Rattle.raw_clock.specs.Engine.{HasTaken, StaysStopped}
use Rattle.raw_clock.specs.Values.{HaveSent}
use Rattle.raw_clock.specs.Account.{IsAccount}
use Rattle.raw_clock.proofs.running.run_counted.Given as goal

abbrev pub invariant-cycles : goal.invariant-cycles
invariant-cycles l =
    (l.machine.set ≡ l.fn.machine.set)
    × HasTaken l.fn.machine.set l.machine (clock_turns l.fn.machine.set l.cycles)
    × ((k : ℕ) → k < l.cycles → GoesOn l.fn.machine.set (clock l.fn.machine.set k))
    × IsAccount l.fn.machine.set l.cycles l.account
    × HaveSent l.fn.machine.set (clock_turns l.fn.machine.set l.cycles) l.passed
    × ((w : ℕ) → slice_index l.passed w ≤ 2560 * l.cycles)
    × ((p : ℕ) → p < proc_count l.fn.machine.set.topo → StaysStopped l.machine l.account.turns.items p)

abbrev pub decreases-cycles : goal.decreases-cycles
decreases-cycles l = 2 ^ 41 - l.cycles
