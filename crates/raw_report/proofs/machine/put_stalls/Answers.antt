use Rattle.raw_grid.specs.Topology.{tile_count}
use Rattle.std.proofs.Common.{arith}
use Rattle.raw_report.specs.Report.{stall_lines}
use Rattle.raw_state_text.proofs.Sections.{failed_numbered, more_numbered, all_numbered}
use Rattle.raw_report.proofs.machine.put_stalls.Goals as goal

pub returns-in_err-put_stall : goal.returns-in_err-put_stall
unfolding stall_lines
returns-in_err-put_stall g c = failed_numbered _ (tile_count c.args.m.now.set.topo) _ c.loop-t.invariant (grind arith) c.in_err-put_stall.ensures c.from_residual.ensures.0

pub loop-t-preserved : goal.loop-t-preserved
loop-t-preserved g c = more_numbered _ (tile_count c.args.m.now.set.topo) _ c.loop-t.invariant (grind arith) c.in_ok-put_stall.ensures

pub returns : goal.returns
unfolding stall_lines
returns g c = all_numbered _ (tile_count c.args.m.now.set.topo) _ c.loop-t.invariant (grind arith)
