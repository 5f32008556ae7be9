use Rattle.std.proofs.Common.{arith}
use Rattle.raw_state_text.proofs.Sections.{failed_listed, more_listed, all_listed}
use Rattle.raw_explore.proofs.standing.put_values.Goals as goal

pub returns-in_err-put_entry : goal.returns-in_err-put_entry
returns-in_err-put_entry g c = failed_listed _ c.args.values.now 0 c.loop-i.invariant.1 (omega (arith, c.loop-i-test.true, c.loop-i.invariant.0)) c.in_err-put_entry.ensures c.from_residual.ensures.0

pub loop-i-preserved : goal.loop-i-preserved
loop-i-preserved g c = (c.loop-i.invariant.0, more_listed _ c.args.values.now 0 c.loop-i.invariant.1 (omega (arith, c.loop-i-test.true, c.loop-i.invariant.0)) c.in_ok-put_entry.ensures)

pub returns : goal.returns
returns g c = all_listed _ c.args.values.now c.loop-i.invariant.1 (omega (arith, c.loop-i-test.false, c.loop-i.invariant.0))
