use Rattle.std.proofs.Common.{arith}
use Rattle.raw_grid.specs.Topology.{proc_count}
use Rattle.raw_state_text.proofs.Sections.{same_text, failed_numbered, more_numbered, all_numbered}
use Rattle.raw_debug.proofs.answers.put_places.Goals as goal

pub returns-in_err-put_line : goal.returns-in_err-put_line
returns-in_err-put_line g c =
    failed_numbered _ (proc_count c.args.m.now.set.topo) _ c.loop-p.invariant (grind arith) (same_text _ _ _ _ _ c.place_line.ensures c.in_err-put_line.ensures) c.from_residual.ensures.0

pub loop-p-preserved : goal.loop-p-preserved
loop-p-preserved g c = more_numbered _ (proc_count c.args.m.now.set.topo) _ c.loop-p.invariant (grind arith) (same_text _ _ _ _ _ c.place_line.ensures c.in_ok-put_line.ensures)

pub returns : goal.returns
returns g c = all_numbered _ (proc_count c.args.m.now.set.topo) _ c.loop-p.invariant (grind arith)
