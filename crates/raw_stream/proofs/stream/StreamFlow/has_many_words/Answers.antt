use Rattle.std.proofs.Common.{◌<◌, length, sym, ap, arith}
use Rattle.std.proofs.lemmas.Bool.{lt-ltb}
use Rattle.raw_model.specs.declared.limits.TheConstants.{MAX_ALL_WORDS}
use Rattle.raw_stream.specs.Streams.{Stream}
use Rattle.raw_stream.specs.Unrolled.{word_count}
use Rattle.raw_stream.proofs.Places.{first_grows}
use Rattle.raw_stream.proofs.stream.StreamFlow.has_many_words.Goals as goal

pub returns-then-total-from : goal.returns-then-total-from
returns-then-total-from c =
    let s : Stream = c.args.self.now in
    let within : c.loop-port.port < length s.sources = omega (arith, ap (λ (x : Stream). length x.sources) c.self.view_is) in
    let grown = first_grows s c.loop-port.port (length s.sources) within in
    let over : MAX_ALL_WORDS < word_count s = omega (arith, grown, c.taken_of-total.ensures.value, c.loop-port.invariant.sum) in
    sym (lt-ltb MAX_ALL_WORDS (word_count s) over)
