use Rattle.raw_grid.specs.Topology.{proc_count}
use Rattle.std.proofs.Common.{arith}
use Rattle.raw_clock_text.specs.Text.{wait_lines}
use Rattle.raw_state_text.proofs.Sections.{failed_numbered, more_numbered, all_numbered}
use Rattle.raw_clock_text.proofs.waits.put_waits.Goals as goal

pub returns-in_err-put_processor : goal.returns-in_err-put_processor
unfolding wait_lines
returns-in_err-put_processor g c = failed_numbered _ (proc_count c.args.run.now.machine.now.set.topo) _ c.loop-p.invariant.1 (omega (arith, c.loop-p-test.true, c.loop-p.invariant.0)) c.in_err-put_processor.ensures c.from_residual.ensures.0

pub loop-p-preserved : goal.loop-p-preserved
loop-p-preserved g c = (c.loop-p.invariant.0, more_numbered _ (proc_count c.args.run.now.machine.now.set.topo) _ c.loop-p.invariant.1 (omega (arith, c.loop-p-test.true, c.loop-p.invariant.0)) c.in_ok-put_processor.ensures)

pub returns : goal.returns
unfolding wait_lines
returns g c = all_numbered _ (proc_count c.args.run.now.machine.now.set.topo) _ c.loop-p.invariant.1 (omega (arith, c.loop-p-test.false, c.loop-p.invariant.0))
