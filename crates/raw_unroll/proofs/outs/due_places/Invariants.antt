use Rattle.std.proofs.Common.{◌≡◌}
use Rattle.std.specs.List.{flat_map, range_with_len}
use Rattle.raw_stream.specs.Unrolled.{due_places}
use Rattle.raw_unroll.proofs.outs.due_places.Given as goal

abbrev pub invariant-loop-port : goal.invariant-loop-port
invariant-loop-port l = l.outs.items ≡ flat_map (due_places l.stream) (range_with_len 0 l.port)
