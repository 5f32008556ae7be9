use Rattle.std.proofs.Common.{◌≡◌, replicate}
use Rattle.std.specs.List.{flat_map, range_with_len}
use Rattle.raw_stream.specs.Kept.{due_count}
use Rattle.raw_unroll.proofs.ports.goes.Given as goal

abbrev pub invariant-loop-port : goal.invariant-loop-port
invariant-loop-port l = l.goes.items ≡ flat_map (λ q. replicate (due_count l.stream q) q) (range_with_len 0 l.port)
