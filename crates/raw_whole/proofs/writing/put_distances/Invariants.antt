use Rattle.std.proofs.Common.{◌≡◌, length}
use Rattle.raw_trace.specs.Whole.{distances_text}
use Rattle.raw_state_text.proofs.Sections.{Listed}
use Rattle.raw_whole.proofs.writing.put_distances.Given as goal

abbrev pub invariant-all : goal.invariant-all
invariant-all g l = (l.i-end ≡ length l.fn.pieces) × Listed (g.K.Sink.sight l.fn.out) (g.K.Sink.sight l.out) distances_text l.fn.pieces l.i
