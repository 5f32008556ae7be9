use Rattle.std.proofs.Common.{length}
use Rattle.raw_grid.specs.Wires.{wires_of}
use Rattle.raw_model.specs.StateTexts.{wire_line}
use Rattle.raw_state_text.proofs.Sections.{Numbered}
use Rattle.raw_debug.proofs.answers.put_wires.Given as goal

abbrev pub invariant-loop-w : goal.invariant-loop-w
invariant-loop-w g l = Numbered (g.K.Sink.sight l.fn.out) (g.K.Sink.sight l.out) (wire_line l.m.state) (length (wires_of l.m.set.topo)) l.w
