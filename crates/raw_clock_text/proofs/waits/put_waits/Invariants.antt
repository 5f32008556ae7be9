use Rattle.std.proofs.Common.{◌≡◌}
use Rattle.raw_grid.specs.Topology.{proc_count}
use Rattle.raw_clock_text.specs.Text.{waits_of}
use Rattle.raw_state_text.proofs.Sections.{Numbered}
use Rattle.raw_clock_text.proofs.waits.put_waits.Given as goal

abbrev pub invariant-loop-p : goal.invariant-loop-p
invariant-loop-p g l = (l.p-end ≡ proc_count l.fn.run.machine.now.set.topo) × Numbered (g.K.Sink.sight l.fn.out) (g.K.Sink.sight l.out) (waits_of l.fn.run.machine.now.set l.fn.run.counts.now.cycles) (proc_count l.fn.run.machine.now.set.topo) l.p
