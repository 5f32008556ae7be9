use Rattle.std.proofs.Common.{◌≡◌, length}
use Rattle.raw_state_text.proofs.Sections.{Numbered}
use Rattle.raw_path.specs.Path.{turns_on}
use Rattle.raw_path.specs.Text.{on_line}
use Rattle.raw_path.proofs.writing.put_turns.Given as goal

abbrev pub invariant-loop-p : goal.invariant-loop-p
invariant-loop-p g l =
    (l.p-end ≡ length l.told.turns.items)
    × Numbered (g.K.Sink.sight l.fn.out) (g.K.Sink.sight l.out) (λ p. on_line p (turns_on p l.told.stretches.items)) (length l.told.turns.items) l.p
