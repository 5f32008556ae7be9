use Rattle.std.proofs.Common.{◌*◌, ℕ, List, ◌++◌, replicate, ap, ◌∙◌, sym}
use Rattle.std.specs.List.{flat_map, range_with_len}
use Rattle.raw_stream.specs.Streams.{Stream}
use Rattle.raw_stream.specs.Unrolled.{width}
use Rattle.raw_unroll.proofs.Dues.{range_more}
use Rattle.raw_unroll.proofs.ports.comes.Goals as goal

pub loop-port-preserved : goal.loop-port-preserved
loop-port-preserved c =
    let s : Stream = c.args.stream.now in
    let q : ℕ = c.loop-port.port in
    let front : List ℕ = flat_map (λ q. replicate (s.count * width s q) q) (range_with_len 0 q) in
    c.in_ok-push_times.ensures
    ∙ ap (λ (xs : List ℕ). xs ++ replicate c.taken_of.result q) c.loop-port.invariant
    ∙ ap (λ n. front ++ replicate n q) c.taken_of.ensures.value
    ∙ sym (range_more (λ q. replicate (s.count * width s q) q) q)
