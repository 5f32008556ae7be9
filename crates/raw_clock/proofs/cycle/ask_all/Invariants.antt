use Rattle.std.proofs.Common.{◌≡◌, ◌<◌, ◌≤◌, ℕ, slice_index, MatchBool, Some}
use Rattle.std.specs.Prelude.{slice_get}
use Rattle.raw_grid.specs.Topology.{tile_count, proc_count}
use Rattle.raw_serial.specs.Running.{turn_of}
use Rattle.raw_clock.specs.Engine.{SomeGoes, NoneGoes}
use Rattle.raw_clock.proofs.cycle.ask_all.Given as goal

abbrev pub invariant-procs : goal.invariant-procs
invariant-procs l =
    (l.p-end ≡ proc_count l.machine.set.topo)
    × ((q : ℕ) → q < l.p → slice_get l.turns q ≡ Some (turn_of l.machine q))
    × ((q : ℕ) → tile_count l.machine.set.topo ≤ q → q < l.p → slice_index l.machine.owed q ≡ 0)
    × MatchBool l.some (SomeGoes l.machine l.p) (NoneGoes l.machine l.p)
