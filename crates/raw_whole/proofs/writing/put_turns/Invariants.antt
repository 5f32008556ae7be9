use Rattle.std.proofs.Common.{◌≡◌, ℕ, length}
use Rattle.raw_model.specs.StateTexts.{mark_of}
use Rattle.raw_serial.specs.declared.turn.Turn.{Turn}
use Rattle.raw_trace.specs.Whole.{turns_text}
use Rattle.raw_state_text.proofs.Sections.{Listed}
use Rattle.raw_whole.proofs.writing.put_turns.Given as goal

abbrev pub invariant-all : goal.invariant-all
invariant-all g l =
    (l.i-end ≡ length l.fn.pieces)
    × Listed (g.K.Sink.sight l.fn.out) (g.K.Sink.sight l.out) (λ (piece : Turn × ℕ). turns_text (mark_of l.fn.machine.set l.fn.machine.state l.fn.p.0) piece.0 piece.1) l.fn.pieces l.i
