use Rattle.std.proofs.Common.{append_assoc, rules}
use Rattle.raw_unroll.proofs.Dues.{out_more}
use Rattle.raw_unroll.proofs.direct.add_row.Goals as goal

pub loop-number-preserved : goal.loop-number-preserved
loop-number-preserved c = search (rules, out_more, append_assoc, c.loop-number.invariant, c.in_ok-add_out.ensures)
