use Rattle.std.proofs.Common.{◌≡◌}
use Rattle.raw_grid.specs.Topology.{proc_count}
use Rattle.raw_names.specs.Names.{processor_line}
use Rattle.raw_state_text.proofs.Sections.{Numbered}
use Rattle.raw_names.proofs.writing.put_processors.Given as goal

abbrev pub invariant-loop-p : goal.invariant-loop-p
invariant-loop-p g l = (l.p-end ≡ proc_count l.set.topo) × Numbered (g.K.Sink.sight l.fn.out) (g.K.Sink.sight l.out) (processor_line l.set) (proc_count l.set.topo) l.p
