use Rattle.raw_grid.specs.Wires.{wires_of}
use Rattle.std.proofs.Common.{length, arith}
use Rattle.raw_clock_text.specs.Text.{passed_lines}
use Rattle.raw_state_text.proofs.Sections.{failed_numbered, more_numbered, all_numbered}
use Rattle.raw_clock_text.proofs.parts.put_wires.Goals as goal

pub returns-in_err-put_wire : goal.returns-in_err-put_wire
unfolding passed_lines
returns-in_err-put_wire g c = failed_numbered _ (length (wires_of c.args.run.now.machine.now.set.topo)) _ c.loop-w.invariant.1 (omega (arith, c.loop-w-test.true, c.loop-w.invariant.0)) c.in_err-put_wire.ensures c.from_residual.ensures.0

pub loop-w-preserved : goal.loop-w-preserved
loop-w-preserved g c = (c.loop-w.invariant.0, more_numbered _ (length (wires_of c.args.run.now.machine.now.set.topo)) _ c.loop-w.invariant.1 (omega (arith, c.loop-w-test.true, c.loop-w.invariant.0)) c.in_ok-put_wire.ensures)

pub returns : goal.returns
unfolding passed_lines
returns g c = all_numbered _ (length (wires_of c.args.run.now.machine.now.set.topo)) _ c.loop-w.invariant.1 (omega (arith, c.loop-w-test.false, c.loop-w.invariant.0))
