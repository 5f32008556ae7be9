use Rattle.std.proofs.Common.{arith}
use Rattle.raw_state_text.proofs.Sections.{failed_numbered, more_numbered, all_numbered}
use Rattle.raw_clock_text.proofs.waits.put_ends.Goals as goal

pub returns-in_err-put_wait : goal.returns-in_err-put_wait
returns-in_err-put_wait g c = failed_numbered _ 10 c.loop-end.end c.loop-end.invariant (c.loop-end-test.true) c.in_err-put_wait.ensures c.from_residual.ensures.0

pub loop-end-preserved : goal.loop-end-preserved
loop-end-preserved g c = more_numbered _ 10 c.loop-end.end c.loop-end.invariant (c.loop-end-test.true) c.in_ok-put_wait.ensures

pub returns : goal.returns
returns g c = all_numbered _ 10 c.loop-end.end c.loop-end.invariant (omega (arith, c.loop-end-test.false))
