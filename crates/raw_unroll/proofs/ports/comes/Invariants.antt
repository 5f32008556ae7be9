use Rattle.std.proofs.Common.{◌≡◌, ◌*◌, replicate}
use Rattle.std.specs.List.{flat_map, range_with_len}
use Rattle.raw_stream.specs.Unrolled.{width}
use Rattle.raw_unroll.proofs.ports.comes.Given as goal

abbrev pub invariant-loop-port : goal.invariant-loop-port
invariant-loop-port l = l.comes.items ≡ flat_map (λ q. replicate (l.stream.count * width l.stream q) q) (range_with_len 0 l.port)
