use Rattle.std.proofs.Common.{ℕ, ◌<◌, map}
use Rattle.std.specs.Prelude.{slice_get}
use Rattle.raw_rows.specs.Kernels.{renumbered, IsLater, AtBoth}
use Rattle.raw_prove.specs.Units.{local_of}
use Rattle.raw_cut.specs.Cuts.{local_at}
use Rattle.raw_cut.proofs.arriving.are_units_at.Given as goal

abbrev pub invariant-loop-p : goal.invariant-loop-p
invariant-loop-p l =
    (q : ℕ) → q < l.p
    → AtBoth (IsLater l.stream l.tiles (map (λ row. row.items) l.rows) (map (λ row. row.items) l.values)) q (slice_get (map local_of l.units) q)
    (slice_get (map (renumbered l.numbers) (map local_at l.cuts)) q)
