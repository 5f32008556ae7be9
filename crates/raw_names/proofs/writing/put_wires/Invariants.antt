use Rattle.std.proofs.Common.{◌≡◌, length}
use Rattle.raw_grid.specs.Wires.{wires_of}
use Rattle.raw_names.specs.Names.{wire_line}
use Rattle.raw_state_text.proofs.Sections.{Numbered}
use Rattle.raw_names.proofs.writing.put_wires.Given as goal

abbrev pub invariant-loop-w : goal.invariant-loop-w
invariant-loop-w g l = (l.w-end ≡ length (wires_of l.topo)) × Numbered (g.K.Sink.sight l.fn.out) (g.K.Sink.sight l.out) (wire_line l.topo) (length (wires_of l.topo)) l.w
