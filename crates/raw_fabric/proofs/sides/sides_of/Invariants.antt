use Rattle.std.proofs.Common.{◌≡◌, ℕ, ◌<◌, length}
use Rattle.std.specs.Prelude.{slice_index_or}
use Rattle.raw_processor.specs.Ends.{AreEndsOf}
use Rattle.raw_fabric_rule.specs.ByEnds.{wires, wire_at}
use Rattle.raw_fabric_step.specs.declared.post.Side.{Side}
use Rattle.raw_fabric_step.specs.Posts.{IsSide}
use Rattle.raw_fabric.proofs.sides.sides_of.Given as goal

abbrev pub invariant-loop-end : goal.invariant-loop-end
invariant-loop-end l = record {
  many : length l.sides ≡ 20;
  each : (p : ℕ) → AreEndsOf l.set.topo p l.ends → (e : ℕ) (none : Side) → e < l.end → wire_at l.set p e < wires l.set → IsSide l.set p e (slice_index_or l.sides e none);
}
