use Rattle.std.proofs.Common.{append_assoc, rules}
use Rattle.raw_unroll.proofs.Dues.{range_more}
use Rattle.raw_unroll.proofs.outs.add_sink.Goals as goal

pub loop-row-preserved : goal.loop-row-preserved
loop-row-preserved c = search (rules, range_more, append_assoc, c.loop-row.invariant, c.in_ok-add_row.ensures)
