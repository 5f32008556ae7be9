use Rattle.std.proofs.Common.{rules}
use Rattle.raw_unroll.proofs.Dues.{range_more}
use Rattle.raw_unroll.proofs.outs.due_places.Goals as goal

pub loop-port-preserved : goal.loop-port-preserved
loop-port-preserved c = search (rules, range_more, c.loop-port.invariant, c.in_ok-add_sink.ensures)
