use Rattle.std.proofs.Common.{◌≡◌, take}
use Rattle.std.specs.List.{flat_map}
use Rattle.raw_stream.specs.Streams.{due_to}
use Rattle.raw_stream.specs.Unrolled.{all_rows}
use Rattle.raw_refute.proofs.row_judging.due_in.Given as goal

abbrev pub invariant-loop-port : goal.invariant-loop-port
invariant-loop-port l = l.all.items ≡ flat_map (λ q. due_to l.stream q (all_rows l.stream l.words)) (take l.port-index l.order)
