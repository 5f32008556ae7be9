use Rattle.std.proofs.Common.{◌≡◌, false}
use Rattle.std.specs.Prelude.{nat_lt}
use Rattle.std.specs.List.{list_any, range_with_len}
use Rattle.raw_model.specs.declared.limits.TheConstants.{MAX_CAPACITY}
use Rattle.raw_stream.specs.Kept.{due_count}
use Rattle.raw_stream.proofs.stream.StreamFlow.has_full_sink.Given as goal

abbrev pub invariant-loop-port : goal.invariant-loop-port
invariant-loop-port l = list_any (λ q. nat_lt MAX_CAPACITY (due_count l.self q)) (range_with_len 0 l.port) ≡ false
