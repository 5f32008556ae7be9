use Rattle.std.proofs.Common.{◌≡◌, ◌&&◌, ℕ, ◌<◌, eqb, None, take}
use Rattle.std.specs.Prelude.{slice_index_or}
use Rattle.std.specs.List.{position}
use Rattle.raw_grid.specs.Wires.{Wire}
use Rattle.raw_grid.proofs.wire.outputs_of.Given as goal

abbrev pub invariant-loop-number : goal.invariant-loop-number
invariant-loop-number l = (i : ℕ) → i < 10 → slice_index_or l.found i None ≡ position (λ (w : Wire). eqb w.from l.p && eqb w.output i) (take l.number l.wires)
