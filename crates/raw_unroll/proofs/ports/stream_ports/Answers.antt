use Rattle.std.proofs.Common.{arith}
use Rattle.std.proofs.lemmas.List.{length-append}
use Rattle.raw_flow.specs.Ports.{placed_topo}
use Rattle.raw_stream.specs.Streams.{Stream}
use Rattle.raw_stream.specs.Unrolled.{unrolled}
use Rattle.raw_unroll.specs.Compiled.{stream_ports}
use Rattle.raw_unroll.proofs.Placed.{topology}
use Rattle.raw_unroll.proofs.Turns.{outs_few}
use Rattle.raw_unroll.proofs.ports.stream_ports.Goals as goal

pub comes-requires-clause-few : goal.comes-requires-clause-few
comes-requires-clause-few c =
    let s : Stream = c.args.stream.now in
    omega (arith, c.law_wires.ensures.few_ports (placed_topo (unrolled s) (stream_ports s)) (topology s c.requires), length-append s.sources s.sinks)

pub goes-requires-clause-few : goal.goes-requires-clause-few
goes-requires-clause-few c =
    let s : Stream = c.args.stream.now in
    omega (arith, c.law_wires.ensures.few_ports (placed_topo (unrolled s) (stream_ports s)) (topology s c.requires), length-append s.sources s.sinks)

pub goes-requires-clause-outs : goal.goes-requires-clause-outs
goes-requires-clause-outs c = omega (arith, outs_few c.args.stream.now c.requires)
