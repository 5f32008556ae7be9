use Rattle.std.proofs.Common.{◌+◌, ◌*◌}
use Rattle.raw_report.specs.Report.{memory_line}
use Rattle.raw_state_text.proofs.Sections.{Numbered}
use Rattle.raw_report.proofs.machine.put_show.Given as goal

abbrev pub invariant-loop-k : goal.invariant-loop-k
invariant-loop-k g l = Numbered (g.K.Sink.sight l.fn.out) (g.K.Sink.sight l.out) (λ k. memory_line l.m.set l.m.state l.show.tile (l.show.address + 4 * k)) l.show.words l.k
