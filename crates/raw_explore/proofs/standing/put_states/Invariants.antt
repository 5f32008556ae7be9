use Rattle.std.proofs.Common.{◌≡◌}
use Rattle.std.specs.List.{flat_map}
use Rattle.raw_grid.specs.Topology.{proc_count}
use Rattle.raw_clock.specs.Clock.{clock}
use Rattle.raw_trace.specs.Lines.{state_line}
use Rattle.raw_trace.specs.Text.{line_text}
use Rattle.raw_state_text.proofs.Sections.{Numbered}
use Rattle.raw_explore.proofs.standing.put_states.Given as goal

abbrev pub invariant-loop-p : goal.invariant-loop-p
invariant-loop-p g l = (l.p-end ≡ proc_count l.fn.machine.set.topo) × Numbered (g.K.Sink.sight l.fn.out) (g.K.Sink.sight l.out) (λ p. flat_map line_text (state_line l.fn.machine.set (clock l.fn.machine.set l.fn.k) p)) (proc_count l.fn.machine.set.topo) l.p
