use Rattle.std.proofs.Common.{◌<◌, ◌++◌, ◌∷◌, [], length, map, sym, ap, ◌∙◌, arith, rules}
use Rattle.std.specs.List.{range_with_len}
use Rattle.raw_stream.specs.Streams.{Stream}
use Rattle.raw_stream.specs.Unrolled.{first}
use Rattle.raw_unroll.proofs.Begins.{begins_within, firsts_more}
use Rattle.raw_unroll.proofs.counts.first_places.Goals as goal

pub loop-port-preserved : goal.loop-port-preserved
loop-port-preserved c =
    let s : Stream = c.args.stream.now in
    let within : c.loop-port.port < length s.sources = omega (arith, ap (λ (x : Stream). length x.sources) c.stream.view_is) in
    let grown = begins_within s c.loop-port.port within in
    record {
      sum = search (rules, c.loop-port.invariant.sum, c.taken_of-total.ensures.value);
      few = omega (arith, grown, c.taken_of-total.ensures.value, c.loop-port.invariant.sum);
      places = c.in_ok-push.ensures.items ∙ ap (λ xs. xs ++ c.loop-port.total ∷ []) c.loop-port.invariant.places
          ∙ ap (λ n. map (first s) (range_with_len 0 c.loop-port.port) ++ n ∷ []) c.loop-port.invariant.sum ∙ sym (firsts_more s c.loop-port.port);
    }
