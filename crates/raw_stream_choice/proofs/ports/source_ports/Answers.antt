use Rattle.raw_stream_choice.proofs.Words.{next_source}
use Rattle.raw_stream_choice.proofs.ports.source_ports.Goals as goal

pub loop-port-preserved : goal.loop-port-preserved
loop-port-preserved c =
    next_source c.args.stream.now c.args.words.now c.loop-port.ports.items c.push.new.self.items c.in_ok-source_port.field-0 c.loop-port.left.now c.split_at.result.0.now
    c.split_at.result.1.now c.loop-port.port c.taken_of-many.result c.loop-port.invariant c.taken_of-many.ensures.value c.split_at.ensures.front c.split_at.ensures.back
    c.in_ok-source_port.ensures c.in_ok-push.ensures.items
