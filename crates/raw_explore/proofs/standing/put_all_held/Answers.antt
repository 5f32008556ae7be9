use Rattle.raw_grid.specs.Wires.{wires_of}
use Rattle.std.proofs.Common.{length, arith}
use Rattle.raw_state_text.proofs.Sections.{failed_numbered, more_numbered, all_numbered}
use Rattle.raw_explore.proofs.standing.put_all_held.Goals as goal

pub returns-in_err-put_held : goal.returns-in_err-put_held
returns-in_err-put_held g c = failed_numbered _ (length (wires_of c.args.machine.now.set.topo)) _ c.loop-w.invariant.1 (omega (arith, c.loop-w-test.true, c.loop-w.invariant.0)) c.in_err-put_held.ensures c.from_residual.ensures.0

pub loop-w-preserved : goal.loop-w-preserved
loop-w-preserved g c = (c.loop-w.invariant.0, more_numbered _ (length (wires_of c.args.machine.now.set.topo)) _ c.loop-w.invariant.1 (omega (arith, c.loop-w-test.true, c.loop-w.invariant.0)) c.in_ok-put_held.ensures)

pub returns : goal.returns
returns g c = all_numbered _ (length (wires_of c.args.machine.now.set.topo)) _ c.loop-w.invariant.1 (omega (arith, c.loop-w-test.false, c.loop-w.invariant.0))
