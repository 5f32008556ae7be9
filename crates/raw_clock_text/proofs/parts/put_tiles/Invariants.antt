use Rattle.std.proofs.Common.{◌≡◌}
use Rattle.raw_grid.specs.Topology.{tile_count}
use Rattle.raw_clock_text.specs.Text.{tile_text}
use Rattle.raw_state_text.proofs.Sections.{Numbered}
use Rattle.raw_clock_text.proofs.parts.put_tiles.Given as goal

abbrev pub invariant-loop-t : goal.invariant-loop-t
invariant-loop-t g l = (l.t-end ≡ tile_count l.fn.run.machine.now.set.topo) × Numbered (g.K.Sink.sight l.fn.out) (g.K.Sink.sight l.out) (tile_text l.fn.run.machine.now.set l.fn.run.counts.now.cycles) (tile_count l.fn.run.machine.now.set.topo) l.t
