use Rattle.std.proofs.Common.{length, arith}
use Rattle.raw_grid.specs.Wires.{wires_of}
use Rattle.raw_state_text.proofs.Sections.{same_text, failed_numbered, more_numbered, all_numbered}
use Rattle.raw_debug.proofs.answers.put_wires.Goals as goal

pub returns-in_err-put_line : goal.returns-in_err-put_line
returns-in_err-put_line g c =
    failed_numbered _ (length (wires_of c.args.m.now.set.topo)) _ c.loop-w.invariant (grind arith) (same_text _ _ _ _ _ c.wire_line.ensures c.in_err-put_line.ensures) c.from_residual.ensures.0

pub loop-w-preserved : goal.loop-w-preserved
loop-w-preserved g c = more_numbered _ (length (wires_of c.args.m.now.set.topo)) _ c.loop-w.invariant (grind arith) (same_text _ _ _ _ _ c.wire_line.ensures c.in_ok-put_line.ensures)

pub returns : goal.returns
returns g c = all_numbered _ (length (wires_of c.args.m.now.set.topo)) _ c.loop-w.invariant (grind arith)
