use Rattle.std.proofs.Common.{◌≡◌, length}
use Rattle.std.specs.List.{flat_map}
use Rattle.raw_trace.specs.Standing.{register_entry}
use Rattle.raw_trace.specs.Text.{entry_text}
use Rattle.raw_state_text.proofs.Sections.{Numbered}
use Rattle.raw_explore.proofs.standing.put_registers.Given as goal

abbrev pub invariant-loop-r : goal.invariant-loop-r
invariant-loop-r g l = (l.r-end ≡ length l.fn.regs) × Numbered (g.K.Sink.sight l.fn.out) (g.K.Sink.sight l.out) (λ r. flat_map entry_text (register_entry l.fn.regs r)) (length l.fn.regs) l.r
