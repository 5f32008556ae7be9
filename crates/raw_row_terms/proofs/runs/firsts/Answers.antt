use Rattle.std.proofs.Common.{rules, ◌≡◌, ◌+◌, ◌*◌, ◌<◌, [], ◌∷◌, ◌++◌, length, map, suc, ap, ◌∙◌, arith}
use Rattle.std.specs.List.{range_with_len}
use Rattle.raw_stream.specs.Streams.{Stream}
use Rattle.raw_stream.specs.Unrolled.{width, first}
use Rattle.raw_row_terms.proofs.Words.{first_is_small, firsts_more}
use Rattle.raw_row_terms.proofs.runs.firsts.Goals as goal

pub overflow_cast-total : goal.overflow_cast-total
overflow_cast-total c =
    let s : Stream = c.args.stream.now in
    let within : c.loop-port.port < length s.sources = omega (arith, ap (λ (x : Stream). length x.sources) c.stream.view_is) in
    let small = first_is_small s c.loop-port.port within c.requires.few in
    omega (arith, small, c.loop-port.invariant.sum)

pub overflow_add-total : goal.overflow_add-total
overflow_add-total c =
    let s : Stream = c.args.stream.now in
    let within : c.loop-port.port < length s.sources = omega (arith, ap (λ (x : Stream). length x.sources) c.stream.view_is) in
    let small = first_is_small s c.loop-port.port within c.requires.few in
    omega (arith, small, c.loop-port.invariant.sum, c.taken_of-total.ensures.few)

pub loop-port-preserved : goal.loop-port-preserved
loop-port-preserved c =
    let s : Stream = c.args.stream.now in
    let pushed : c.push.new.self.items ≡ map (first s) (range_with_len 0 c.loop-port.port) ++ first s c.loop-port.port ∷ [] = search rules in
    let one : c.loop-port.port + 1 ≡ suc c.loop-port.port = omega arith in
    let step : first s (c.loop-port.port + 1) ≡ first s c.loop-port.port + s.count * width s c.loop-port.port = ap (first s) one in
    record {
      items = pushed ∙ firsts_more s c.loop-port.port;
      sum = omega (arith, step, c.loop-port.invariant.sum, c.taken_of-total.ensures.value);
    }
