use Rattle.raw_grid.specs.Topology.{proc_count}
use Rattle.std.proofs.Common.{arith}
use Rattle.raw_state_text.proofs.Sections.{failed_numbered, more_numbered, all_numbered}
use Rattle.raw_explore.proofs.standing.put_states.Goals as goal

pub returns-in_err-put_state : goal.returns-in_err-put_state
returns-in_err-put_state g c = failed_numbered _ (proc_count c.args.machine.now.set.topo) _ c.loop-p.invariant.1 (omega (arith, c.loop-p-test.true, c.loop-p.invariant.0)) c.in_err-put_state.ensures c.from_residual.ensures.0

pub loop-p-preserved : goal.loop-p-preserved
loop-p-preserved g c = (c.loop-p.invariant.0, more_numbered _ (proc_count c.args.machine.now.set.topo) _ c.loop-p.invariant.1 (omega (arith, c.loop-p-test.true, c.loop-p.invariant.0)) c.in_ok-put_state.ensures)

pub returns : goal.returns
returns g c = all_numbered _ (proc_count c.args.machine.now.set.topo) _ c.loop-p.invariant.1 (omega (arith, c.loop-p-test.false, c.loop-p.invariant.0))
