use Rattle.std.proofs.Common.{◌+◌, ◌*◌}
use Rattle.raw_model.specs.TileTable.{word_at}
use Rattle.raw_state_text.proofs.Sections.{Numbered}
use Rattle.raw_debug.specs.Answers.{word_line}
use Rattle.raw_debug.proofs.answers.put_words.Given as goal

abbrev pub invariant-loop-k : goal.invariant-loop-k
invariant-loop-k g l = Numbered (g.K.Sink.sight l.fn.out) (g.K.Sink.sight l.out) (λ k. word_line (l.address + 4 * k) (word_at l.memory (l.address + 4 * k))) l.words l.k
