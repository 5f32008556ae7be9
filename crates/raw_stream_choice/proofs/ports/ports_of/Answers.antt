use Rattle.std.proofs.Common.{map, length}
use Rattle.std.specs.List.{range_with_len}
use Rattle.raw_stream_choice.specs.StreamSets.{source_program, sink_program}
use Rattle.raw_stream_choice.proofs.Words.{next_sink}
use Rattle.raw_stream_choice.proofs.ports.ports_of.Goals as goal

pub loop-port-preserved : goal.loop-port-preserved
loop-port-preserved c =
    let s = c.args.stream.now in
    next_sink (sink_program s) (map (source_program s c.args.words.now) (range_with_len 0 (length s.sources))) c.loop-port.ports.items c.push.new.self.items c.sink_port.result
    c.loop-port.port c.loop-port.invariant c.sink_port.ensures c.in_ok-push.ensures.items
