use Rattle.raw_grid.specs.Topology.{tile_count}
use Rattle.std.proofs.Common.{arith}
use Rattle.raw_clock_text.specs.Text.{switch_lines}
use Rattle.raw_state_text.proofs.Sections.{failed_numbered, more_numbered, all_numbered}
use Rattle.raw_clock_text.proofs.parts.put_switches.Goals as goal

pub returns-in_err-put_switch : goal.returns-in_err-put_switch
unfolding switch_lines
returns-in_err-put_switch g c = failed_numbered _ (tile_count c.args.run.now.machine.now.set.topo) _ c.loop-t.invariant.1 (omega (arith, c.loop-t-test.true, c.loop-t.invariant.0)) c.in_err-put_switch.ensures c.from_residual.ensures.0

pub loop-t-preserved : goal.loop-t-preserved
loop-t-preserved g c = (c.loop-t.invariant.0, more_numbered _ (tile_count c.args.run.now.machine.now.set.topo) _ c.loop-t.invariant.1 (omega (arith, c.loop-t-test.true, c.loop-t.invariant.0)) c.in_ok-put_switch.ensures)

pub returns : goal.returns
unfolding switch_lines
returns g c = all_numbered _ (tile_count c.args.run.now.machine.now.set.topo) _ c.loop-t.invariant.1 (omega (arith, c.loop-t-test.false, c.loop-t.invariant.0))
