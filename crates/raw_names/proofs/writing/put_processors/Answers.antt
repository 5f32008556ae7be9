use Rattle.raw_grid.specs.Topology.{proc_count}
use Rattle.std.proofs.Common.{arith}
use Rattle.raw_names.specs.Names.{processor_lines}
use Rattle.raw_state_text.proofs.Sections.{failed_numbered, more_numbered, all_numbered, same_text}
use Rattle.raw_names.proofs.writing.put_processors.Goals as goal

pub returns-in_err-put_line : goal.returns-in_err-put_line
unfolding processor_lines
returns-in_err-put_line g c = failed_numbered _ (proc_count c.args.set.now.topo) _ c.loop-p.invariant.1 (omega (arith, c.loop-p-test.true, c.loop-p.invariant.0)) (same_text _ _ _ _ _ c.processor_line.ensures c.in_err-put_line.ensures) c.from_residual.ensures.0

pub loop-p-preserved : goal.loop-p-preserved
loop-p-preserved g c = (c.loop-p.invariant.0, more_numbered _ (proc_count c.args.set.now.topo) _ c.loop-p.invariant.1 (omega (arith, c.loop-p-test.true, c.loop-p.invariant.0)) (same_text _ _ _ _ _ c.processor_line.ensures c.in_ok-put_line.ensures))

pub returns : goal.returns
unfolding processor_lines
returns g c = all_numbered _ (proc_count c.args.set.now.topo) _ c.loop-p.invariant.1 (omega (arith, c.loop-p-test.false, c.loop-p.invariant.0))
