use Rattle.std.proofs.Common.{◌+◌}
use Rattle.std.specs.Prelude.{slice_get}
use Rattle.raw_grid.specs.Topology.{tile_count}
use Rattle.raw_report.specs.Report.{switch_line_of}
use Rattle.raw_state_text.proofs.Sections.{Numbered}
use Rattle.raw_report.proofs.machine.put_switches.Given as goal

abbrev pub invariant-loop-t : goal.invariant-loop-t
invariant-loop-t g l = Numbered (g.K.Sink.sight l.fn.out) (g.K.Sink.sight l.out) (λ tile. switch_line_of l.m.set l.m.state tile (slice_get l.m.state.locals (tile_count l.m.set.topo + tile))) (tile_count l.m.set.topo) l.t
