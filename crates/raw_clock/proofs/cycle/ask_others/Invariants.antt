use Rattle.std.proofs.Common.{◌≡◌, ℕ, ◌<◌, ◌≤◌, Some}
use Rattle.std.specs.Prelude.{slice_get, slice_index}
use Rattle.raw_grid.specs.Topology.{tile_count, proc_count}
use Rattle.raw_serial.specs.Running.{turn_of}
use Rattle.raw_clock.specs.Account.{IsAccount}
use Rattle.raw_clock.proofs.cycle.ask_others.Given as goal

abbrev pub invariant-procs : goal.invariant-procs
invariant-procs l =
    (l.p-end ≡ proc_count l.machine.set.topo)
    × (tile_count l.machine.set.topo ≤ l.p)
    × IsAccount l.machine.set l.cycles l.account
    × ((q : ℕ) → tile_count l.machine.set.topo ≤ q → q < l.p → slice_get l.account.turns.items q ≡ Some (turn_of l.machine q))
    × ((q : ℕ) → q < tile_count l.machine.set.topo → slice_get l.account.turns.items q ≡ slice_get l.fn.account.turns.items q)
    × ((q : ℕ) → l.p ≤ q → slice_get l.account.turns.items q ≡ slice_get l.fn.account.turns.items q)
    × ((q : ℕ) → tile_count l.machine.set.topo ≤ q → q < l.p → slice_index l.machine.owed q ≡ 0)
