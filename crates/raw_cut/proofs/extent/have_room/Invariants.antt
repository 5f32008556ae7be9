use Rattle.std.proofs.Common.{ℕ, ◌*◌, ◌<◌, ◌≤◌, length}
use Rattle.std.specs.Prelude.{slice_get}
use Rattle.raw_model.specs.Machine.{capacity_of}
use Rattle.raw_stream.specs.Streams.{due_at}
use Rattle.raw_cut.proofs.extent.have_room.Given as goal

abbrev pub invariant-loop-port : goal.invariant-loop-port
invariant-loop-port l = (q : ℕ) → q < l.port → l.most * length (due_at l.stream q) ≤ capacity_of (slice_get l.set.ports q)
