use Rattle.std.proofs.Common.{arith}
use Rattle.std.specs.Mem.Slots.{slots_items}
use Rattle.raw_grid.proofs.Growth.{wires_few}
use Rattle.raw_fabric_rule.specs.ByEnds.{wires}
use Rattle.raw_fabric_rule.specs.Closing.{wire_of}
use Rattle.raw_fabric.proofs.ReadBack.{wire_more}
use Rattle.raw_fabric.proofs.read.read_wires.Goals as goal

pub loop-w-preserved : goal.loop-w-preserved
loop-w-preserved c =
    let long = c.loop-w.auto.queues in
    let t = c.loop-w-test.true in
    wire_more (wire_of c.args.set.now (slots_items c.args.closed.now.words)) c.loop-w.queues c.loop-w.w c.read_wire.new.queue (omega arith) c.read_wire.ensures c.loop-w.invariant

pub overflow_cast-w : goal.overflow_cast-w
unfolding wires
overflow_cast-w c =
    let few = wires_few c.args.set.now.topo c.requires.valid.topology in
    let long = c.loop-w.auto.queues in
    let t = c.loop-w-test.true in
    let all = c.requires.queues in
    omega arith
