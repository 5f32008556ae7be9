use Rattle.std.proofs.Common.{◌≡◌, ℕ, ◌≤◌, Some, List}
use Rattle.std.specs.Prelude.{slice_get, vec_len, vec_capacity}
use Rattle.raw_fabric_step.specs.declared.post.Side.{Side}
use Rattle.raw_fabric.specs.Opened.{AreSides}
use Rattle.raw_fabric.proofs.sides.all_sides.Given as goal

abbrev pub invariant-loop-p : goal.invariant-loop-p
invariant-loop-p l = record {
  many : vec_len l.sides ≡ l.p;
  room : l.procs ≤ vec_capacity l.sides;
  each : (p : ℕ) (s : List Side) → slice_get l.sides.items p ≡ Some s → AreSides l.machine.set p s;
}
