use Rattle.raw_grid.specs.Topology.{proc_count}
use Rattle.raw_model.specs.StateTexts.{wait_line}
use Rattle.raw_state_text.proofs.Sections.{Numbered}
use Rattle.raw_debug.proofs.answers.put_waits.Given as goal

abbrev pub invariant-loop-p : goal.invariant-loop-p
invariant-loop-p g l = Numbered (g.K.Sink.sight l.fn.out) (g.K.Sink.sight l.out) (wait_line l.m.set l.m.state) (proc_count l.m.set.topo) l.p
