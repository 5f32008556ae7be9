use Rattle.std.proofs.Common.{ℕ, ◌<◌, ◌≤◌}
use Rattle.std.specs.Prelude.{slice_get}
use Rattle.raw_model.specs.Machine.{capacity_of}
use Rattle.raw_stream.specs.Kept.{due_count}
use Rattle.raw_lengths.proofs.proving.have_room.Given as goal

abbrev pub invariant-loop-port : goal.invariant-loop-port
invariant-loop-port l = (q : ℕ) → q < l.port → due_count l.stream q ≤ capacity_of (slice_get l.set.ports q)
