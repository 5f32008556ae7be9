use Rattle.std.proofs.Common.{ap}
use Rattle.raw_stream.specs.Streams.{Stream}
use Rattle.raw_stream_choice.proofs.Twins.{numbered_is}
use Rattle.raw_stream_choice.proofs.numbered.with_outs.Goals as goal

pub returns : goal.returns
returns c =
    let view = c.stream.view_is in
    numbered_is c.args.stream.now c.stream.inside.cols c.stream.inside.rows c.stream.inside.count c.in_ok-places_of.field-0.items c.in_ok-places_of-2.field-0.items
    c.in_ok-nodes_of.field-0.items c.args.outs.items (ap (λ (s : Stream). s.cols) view) (ap (λ (s : Stream). s.rows) view) (ap (λ (s : Stream). s.count) view)
    c.in_ok-places_of.ensures c.in_ok-places_of-2.ensures c.in_ok-nodes_of.ensures c.requires
