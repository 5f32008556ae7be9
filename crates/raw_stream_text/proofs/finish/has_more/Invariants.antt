use Rattle.std.proofs.Common.{◌≡◌, ◌*◌, false, length, map}
use Rattle.std.specs.Prelude.{nat_lt}
use Rattle.std.specs.List.{list_any, range_with_len}
use Rattle.raw_stream.specs.Unrolled.{width}
use Rattle.raw_stream_text.specs.Streams.{words_to}
use Rattle.raw_stream_text.specs.Building.{feed_in}
use Rattle.raw_stream_text.proofs.finish.has_more.Given as goal

abbrev pub invariant-loop-port : goal.invariant-loop-port
invariant-loop-port l = list_any (λ q. nat_lt (l.stream.count * width l.stream q) (length (words_to (map feed_in l.feeds) q))) (range_with_len 0 l.port) ≡ false
