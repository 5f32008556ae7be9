use Rattle.std.proofs.Common.{◌≡◌, length}
use Rattle.raw_trace.specs.declared.entry.Entry.TheVariants as entry
use Rattle.raw_trace.specs.Text.{entry_text}
use Rattle.raw_state_text.proofs.Sections.{Listed}
use Rattle.raw_explore.proofs.standing.put_values.Given as goal

abbrev pub invariant-loop-i : goal.invariant-loop-i
invariant-loop-i g l = (l.i-end ≡ length l.fn.values) × Listed (g.K.Sink.sight l.fn.out) (g.K.Sink.sight l.out) (λ value. entry_text (entry.Sent l.fn.wire value)) l.fn.values l.i
