use Rattle.std.proofs.Common.{rules, map}
use Rattle.raw_stream_text.specs.Streams.{words_to}
use Rattle.raw_stream_text.specs.Building.{feed_in}
use Rattle.raw_stream_text.proofs.Ending.{flat_more}
use Rattle.raw_stream_text.proofs.finish.words_of_all.Goals as goal

pub loop-port-preserved : goal.loop-port-preserved
loop-port-preserved c =
    let next = flat_more (words_to (map feed_in c.args.feeds.now)) c.loop-port.port in
    search (rules, next, c.loop-port.invariant, c.in_ok-words.ensures)
