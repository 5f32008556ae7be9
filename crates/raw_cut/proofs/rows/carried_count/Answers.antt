use Rattle.std.proofs.Common.{rules}
use Rattle.raw_cut.proofs.Inputs.{first_more, carried_one}
use Rattle.raw_cut.proofs.rows.carried_count.Goals as goal

pub loop-place-preserved : goal.loop-place-preserved
loop-place-preserved c = record {
  count = search (rules, c.loop-place.invariant.count, c.takes_carried-count.ensures, first_more);
  few = search (rules, c.loop-place.invariant.few, c.takes_carried-count.ensures, carried_one);
}
