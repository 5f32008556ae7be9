use Rattle.std.proofs.Common.{◌≡◌, take, map}
use Rattle.raw_stream_text.specs.Streams.{words_to}
use Rattle.raw_stream_text.specs.Building.{feed_in}
use Rattle.raw_stream_text.proofs.finish.words_to.Given as goal

abbrev pub invariant-loop-place : goal.invariant-loop-place
invariant-loop-place l = l.words.items ≡ words_to (map feed_in (take l.place l.feeds)) l.port
