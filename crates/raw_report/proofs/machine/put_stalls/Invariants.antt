use Rattle.std.specs.Prelude.{slice_index}
use Rattle.raw_grid.specs.Topology.{tile_count}
use Rattle.raw_report.specs.Report.{stall_line}
use Rattle.raw_state_text.proofs.Sections.{Numbered}
use Rattle.raw_report.proofs.machine.put_stalls.Given as goal

abbrev pub invariant-loop-t : goal.invariant-loop-t
invariant-loop-t g l = Numbered (g.K.Sink.sight l.fn.out) (g.K.Sink.sight l.out) (λ tile. stall_line l.m.set tile (slice_index l.m.missed tile)) (tile_count l.m.set.topo) l.t
