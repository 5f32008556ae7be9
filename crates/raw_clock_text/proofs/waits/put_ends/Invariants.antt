use Rattle.std.proofs.Common.{None}
use Rattle.std.specs.Prelude.{slice_index_or}
use Rattle.raw_clock_text.specs.Waits.{waits_at}
use Rattle.raw_state_text.proofs.Sections.{Numbered}
use Rattle.raw_clock_text.proofs.waits.put_ends.Given as goal

abbrev pub invariant-loop-end : goal.invariant-loop-end
invariant-loop-end g l = Numbered (g.K.Sink.sight l.fn.out) (g.K.Sink.sight l.out) (λ end. waits_at l.fn.topo l.fn.p.0 l.fn.waits (slice_index_or l.fn.wires end None)) 10 l.end
