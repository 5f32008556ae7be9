use Rattle.std.proofs.Common.{◌≡◌, ◌++◌, map}
use Rattle.std.specs.List.{flat_map, range_with_len}
use Rattle.raw_stream.specs.Streams.{due_at}
use Rattle.raw_stream.specs.Unrolled.{place}
use Rattle.raw_unroll.proofs.outs.add_sink.Given as goal

abbrev pub invariant-loop-row : goal.invariant-loop-row
invariant-loop-row l = l.outs.items ≡ l.initial.outs.items ++ flat_map (λ r. map (place l.stream r) (due_at l.stream l.port)) (range_with_len 0 l.row)
