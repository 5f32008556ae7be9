use Rattle.std.proofs.Common.{◌≤◌}
use Rattle.std.specs.List.{flat_map}
use Rattle.raw_model.specs.declared.limits.TheConstants.{MEMORY_WORDS}
use Rattle.raw_trace.specs.Standing.{word_entry}
use Rattle.raw_trace.specs.Text.{entry_text}
use Rattle.raw_state_text.proofs.Sections.{Numbered}
use Rattle.raw_explore.proofs.standing.put_memory.Given as goal

abbrev pub invariant-loop-i : goal.invariant-loop-i
invariant-loop-i g l = (l.i ≤ MEMORY_WORDS) × Numbered (g.K.Sink.sight l.fn.out) (g.K.Sink.sight l.out) (λ i. flat_map entry_text (word_entry l.fn.given l.fn.memory i)) MEMORY_WORDS l.i
