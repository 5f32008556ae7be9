use Rattle.std.proofs.Common.{◌≡◌, ℕ, ◌<◌}
use Rattle.std.specs.Prelude.{slice_index}
use Rattle.raw_grid.specs.Topology.{proc_count}
use Rattle.raw_clock.specs.Account.{IsAccount}
use Rattle.raw_clock.proofs.account.Account.close.Given as goal

abbrev pub invariant-procs : goal.invariant-procs
invariant-procs l =
    (l.p-end ≡ proc_count l.set.topo)
    × IsAccount l.set l.cycles l.self
    × ((q : ℕ) → q < l.p → slice_index l.self.since.items q ≡ l.cycles)
