use Rattle.std.proofs.Common.{◌≡◌, ℕ, ◌≤◌, length, Some}
use Rattle.std.specs.Prelude.{slice_get, vec_capacity}
use Rattle.raw_processor.specs.declared.end_wires.EndWires.{EndWires}
use Rattle.raw_processor.specs.Ends.{AreEndsOf}
use Rattle.raw_serial.proofs.opening.open_ends.Given as goal

abbrev pub invariant-loop-p : goal.invariant-loop-p
invariant-loop-p l =
    (length l.ends.items ≡ l.p) × (l.procs ≤ vec_capacity l.ends)
    × ((q : ℕ) (e : EndWires) → slice_get l.ends.items q ≡ Some e → AreEndsOf l.set.topo q e)
