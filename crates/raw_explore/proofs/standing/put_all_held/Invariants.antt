use Rattle.std.proofs.Common.{◌≡◌, length}
use Rattle.std.specs.List.{flat_map}
use Rattle.raw_grid.specs.Wires.{wires_of}
use Rattle.raw_trace.specs.Standing.{held_entries}
use Rattle.raw_trace.specs.Text.{entry_text}
use Rattle.raw_state_text.proofs.Sections.{Numbered}
use Rattle.raw_explore.proofs.standing.put_all_held.Given as goal

abbrev pub invariant-loop-w : goal.invariant-loop-w
invariant-loop-w g l = (l.w-end ≡ length (wires_of l.fn.machine.set.topo)) × Numbered (g.K.Sink.sight l.fn.out) (g.K.Sink.sight l.out) (λ w. flat_map entry_text (held_entries l.fn.machine.set l.fn.machine.state l.fn.p.0 w)) (length (wires_of l.fn.machine.set.topo)) l.w
