use Rattle.std.proofs.Common.{◌≡◌, ◌<◌, ◌≤◌, ◌*◌, ◌++◌, ℕ, List, length, slice_index, Some, MatchBool}
use Rattle.std.specs.Prelude.{slice_get}
use Rattle.std.specs.List.{filter, range_with_len}
use Rattle.raw_network.specs.Network.{is_enabled}
use Rattle.raw_grid.specs.Topology.{tile_count, proc_count}
use Rattle.raw_serial.specs.Running.{turn_of}
use Rattle.raw_clock.specs.Clock.{clocked}
use Rattle.raw_clock.specs.Engine.{clock_by, HasTaken, SomeGoes, NoneGoes}
use Rattle.raw_clock.specs.Account.{IsAccount}
use Rattle.raw_clock.specs.Values.{HaveSent, AreFewMore}
use Rattle.raw_clock.proofs.cycle.take_all.Given as goal

abbrev pub invariant-procs : goal.invariant-procs
invariant-procs l =
    let taken = λ (ts : List ℕ). ts ++ filter (λ p. is_enabled (clocked l.fn.machine.set) (clock_by l.fn.machine.set ts) p) (range_with_len 0 l.p) in
    (l.p-end ≡ proc_count l.fn.machine.set.topo)
    × (l.machine.set ≡ l.fn.machine.set)
    × ((q : ℕ) → l.p ≤ q → slice_index l.machine.owed q ≡ slice_index l.fn.machine.owed q)
    × ((ts : List ℕ) → HasTaken l.fn.machine.set l.fn.machine ts → HaveSent l.fn.machine.set ts l.fn.passed →
    HasTaken l.fn.machine.set l.machine (taken ts) × HaveSent l.fn.machine.set (taken ts) l.passed)
    × (length l.passed ≡ length l.fn.passed)
    × AreFewMore (10 * l.p) l.fn.passed l.passed
    × (l.tiles ≡ tile_count l.fn.machine.set.topo)
    × ((q : ℕ) → l.p ≤ q → q < tile_count l.fn.machine.set.topo → turn_of l.machine q ≡ turn_of l.fn.machine q)
    × IsAccount l.fn.machine.set l.cycles l.account
    × ((q : ℕ) → q < l.p → slice_get l.account.turns.items q ≡ Some (turn_of l.fn.machine q))
    × ((q : ℕ) → l.p ≤ q → slice_get l.account.turns.items q ≡ slice_get l.fn.account.turns.items q)
    × MatchBool l.some (SomeGoes l.fn.machine l.p) (NoneGoes l.fn.machine l.p)
