use Rattle.std.proofs.Common.{◌≡◌, length}
use Rattle.raw_grid.specs.Wires.{wires_of}
use Rattle.raw_clock_text.specs.Text.{passed_text}
use Rattle.raw_state_text.proofs.Sections.{Numbered}
use Rattle.raw_clock_text.proofs.parts.put_wires.Given as goal

abbrev pub invariant-loop-w : goal.invariant-loop-w
invariant-loop-w g l = (l.w-end ≡ length (wires_of l.fn.run.machine.now.set.topo)) × Numbered (g.K.Sink.sight l.fn.out) (g.K.Sink.sight l.out) (passed_text l.fn.run.machine.now.set l.fn.run.counts.now.cycles) (length (wires_of l.fn.run.machine.now.set.topo)) l.w
