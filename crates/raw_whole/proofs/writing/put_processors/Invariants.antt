use Rattle.raw_grid.specs.Topology.{proc_count}
use Rattle.raw_trace.specs.Whole.{turns_line}
use Rattle.raw_state_text.proofs.Sections.{Numbered}
use Rattle.raw_whole.proofs.writing.put_processors.Given as goal

abbrev pub invariant-all : goal.invariant-all
invariant-all g l = Numbered (g.K.Sink.sight l.fn.out) (g.K.Sink.sight l.out) (turns_line l.fn.run.machine.now.set l.fn.run.cycles) (proc_count l.fn.run.machine.now.set.topo) l.p
