use Rattle.raw_grid.specs.Wires.{wires_of}
use Rattle.std.proofs.Common.{length, arith}
use Rattle.raw_names.specs.Names.{wire_lines}
use Rattle.raw_state_text.proofs.Sections.{failed_numbered, more_numbered, all_numbered, same_text}
use Rattle.raw_names.proofs.writing.put_wires.Goals as goal

pub returns-in_err-put_line : goal.returns-in_err-put_line
unfolding wire_lines
returns-in_err-put_line g c = failed_numbered _ (length (wires_of c.args.topo.now)) _ c.loop-w.invariant.1 (omega (arith, c.loop-w-test.true, c.loop-w.invariant.0)) (same_text _ _ _ _ _ c.wire_line.ensures c.in_err-put_line.ensures) c.from_residual.ensures.0

pub loop-w-preserved : goal.loop-w-preserved
loop-w-preserved g c = (c.loop-w.invariant.0, more_numbered _ (length (wires_of c.args.topo.now)) _ c.loop-w.invariant.1 (omega (arith, c.loop-w-test.true, c.loop-w.invariant.0)) (same_text _ _ _ _ _ c.wire_line.ensures c.in_ok-put_line.ensures))

pub returns : goal.returns
unfolding wire_lines
returns g c = all_numbered _ (length (wires_of c.args.topo.now)) _ c.loop-w.invariant.1 (omega (arith, c.loop-w-test.false, c.loop-w.invariant.0))
