use Rattle.std.specs.Vec.{vec_len}
use Rattle.raw_flow.specs.declared.node.Node.TheVariants as flow_node
use Rattle.raw_stream.specs.Streams.{Stream}
use Rattle.raw_stream.specs.Unrolled.{word_count}
use Rattle.raw_unroll.specs.declared.unrolling.Unrolling.{Unrolling}
use Rattle.raw_unroll.proofs.Rows.{filled, none_unrolled}
use Rattle.raw_unroll.proofs.unrolling.Unrolling.new.Goals as goal

pub returns : goal.returns
returns c =
    let s : Stream = c.args.stream.now in
    let u : Unrolling = record { next = c.in_ok-next.next; places = c.new.result; nodes = c.resize.new.self } in
    let nodes = filled c.new-nodes.result.items c.resize.new.self.items c.word_count.result (vec_len c.new-nodes.result) (word_count s) flow_node.Input c.in_ok-resize.ensures.items c.new-nodes.ensures.items c.new-nodes.ensures.len c.word_count.ensures in
    none_unrolled u s c.requires c.in_ok-next.ensures c.new.ensures.items nodes
