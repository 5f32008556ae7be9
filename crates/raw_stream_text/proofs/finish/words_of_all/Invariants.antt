use Rattle.std.proofs.Common.{◌≡◌, map}
use Rattle.raw_stream_text.specs.Streams.{words_of_all}
use Rattle.raw_stream_text.specs.Building.{feed_in}
use Rattle.raw_stream_text.proofs.finish.words_of_all.Given as goal

abbrev pub invariant-loop-port : goal.invariant-loop-port
invariant-loop-port l = l.all.items ≡ words_of_all (map feed_in l.feeds) l.port
