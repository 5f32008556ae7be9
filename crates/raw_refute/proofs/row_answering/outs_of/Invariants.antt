use Rattle.std.proofs.Common.{◌≡◌, take}
use Rattle.std.specs.Prelude.{sum_by}
use Rattle.raw_stream.specs.Kept.{due_count}
use Rattle.raw_refute.proofs.row_answering.outs_of.Given as goal

abbrev pub invariant-loop-port : goal.invariant-loop-port
invariant-loop-port l = l.outs ≡ sum_by (due_count l.stream) (take l.port-index l.order)
