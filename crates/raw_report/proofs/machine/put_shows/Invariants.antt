use Rattle.raw_report.specs.Report.{show_lines_of}
use Rattle.raw_state_text.proofs.Sections.{Listed}
use Rattle.raw_report.proofs.machine.put_shows.Given as goal

abbrev pub invariant-loop-show : goal.invariant-loop-show
invariant-loop-show g l = Listed (g.K.Sink.sight l.fn.out) (g.K.Sink.sight l.out) (show_lines_of l.m.set l.m.state) l.m.set.shows l.show-index
