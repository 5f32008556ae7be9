use Rattle.std.proofs.Common.{◌≡◌, ◌*◌, ◌^◌, ◌≤◌}
use Rattle.std.specs.Prelude.{sum_by}
use Rattle.std.specs.List.{range_with_len}
use Rattle.raw_grid.specs.Topology.{tile_count}
use Rattle.raw_clock.specs.Clock.{is_fired, spent}
use Rattle.raw_path.proofs.steps.program_steps.Given as goal

abbrev pub invariant-procs : goal.invariant-procs
invariant-procs l =
    (l.p-end ≡ 2 * tile_count l.set.topo)
    × (l.steps ≡ sum_by (λ p. spent l.set l.cycles p is_fired) (range_with_len 0 l.p))
    × (l.steps ≤ l.p * 2 ^ 41)
