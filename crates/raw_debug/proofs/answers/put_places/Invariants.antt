use Rattle.raw_grid.specs.Topology.{proc_count}
use Rattle.raw_state_text.proofs.Sections.{Numbered}
use Rattle.raw_debug.specs.Answers.{place_line}
use Rattle.raw_debug.proofs.answers.put_places.Given as goal

abbrev pub invariant-loop-p : goal.invariant-loop-p
invariant-loop-p g l = Numbered (g.K.Sink.sight l.fn.out) (g.K.Sink.sight l.out) (place_line l.m.set l.m.state) (proc_count l.m.set.topo) l.p
