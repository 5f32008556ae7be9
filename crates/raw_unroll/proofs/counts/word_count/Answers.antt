use Rattle.std.proofs.Common.{◌<◌, length, ap, arith, rules}
use Rattle.raw_stream.specs.Streams.{Stream}
use Rattle.raw_unroll.proofs.Begins.{begins_within}
use Rattle.raw_unroll.proofs.counts.word_count.Goals as goal

pub loop-port-preserved : goal.loop-port-preserved
loop-port-preserved c =
    let s : Stream = c.args.stream.now in
    let within : c.loop-port.port < length s.sources = omega (arith, ap (λ (x : Stream). length x.sources) c.stream.view_is) in
    let grown = begins_within s c.loop-port.port within in
    record {
      sum = search (rules, c.loop-port.invariant.sum, c.taken_of-total.ensures.value);
      few = omega (arith, grown, c.taken_of-total.ensures.value, c.loop-port.invariant.sum);
    }
