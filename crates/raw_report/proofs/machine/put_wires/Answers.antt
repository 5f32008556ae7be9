use Rattle.raw_grid.specs.Wires.{wires_of}
use Rattle.std.proofs.Common.{length, arith}
use Rattle.raw_report.specs.Report.{wire_lines}
use Rattle.raw_state_text.proofs.Sections.{failed_numbered, more_numbered, all_numbered}
use Rattle.raw_report.proofs.machine.put_wires.Goals as goal

pub returns-in_err-put_wire : goal.returns-in_err-put_wire
unfolding wire_lines
returns-in_err-put_wire g c = failed_numbered _ (length (wires_of c.args.m.now.set.topo)) _ c.loop-w.invariant (grind arith) c.in_err-put_wire.ensures c.from_residual.ensures.0

pub loop-w-preserved : goal.loop-w-preserved
loop-w-preserved g c = more_numbered _ (length (wires_of c.args.m.now.set.topo)) _ c.loop-w.invariant (grind arith) c.in_ok-put_wire.ensures

pub returns : goal.returns
unfolding wire_lines
returns g c = all_numbered _ (length (wires_of c.args.m.now.set.topo)) _ c.loop-w.invariant (grind arith)
