use Rattle.std.proofs.Common.{length}
use Rattle.raw_grid.specs.Wires.{wires_of}
use Rattle.raw_trace.specs.Whole.{sent_line}
use Rattle.raw_state_text.proofs.Sections.{Numbered}
use Rattle.raw_whole.proofs.writing.put_wires.Given as goal

abbrev pub invariant-all : goal.invariant-all
invariant-all g l =
    Numbered (g.K.Sink.sight l.fn.out) (g.K.Sink.sight l.out) (sent_line l.fn.run.machine.now.set l.fn.run.cycles) (length (wires_of l.fn.run.machine.now.set.topo)) l.w
