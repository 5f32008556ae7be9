use Rattle.std.proofs.Common.{◌+◌, ◌-◌}
use Rattle.std.specs.Prelude.{slice_get}
use Rattle.raw_state_text.proofs.Sections.{Numbered}
use Rattle.raw_debug.specs.Answers.{tile_text, code_line}
use Rattle.raw_debug.proofs.answers.put_tile_code.Given as goal

abbrev pub invariant-loop-place : goal.invariant-loop-place
invariant-loop-place g l =
    Numbered (g.K.Sink.sight l.fn.out) (g.K.Sink.sight l.out) (λ k. code_line l.pc (l.low + k) (tile_text (l.low + k) (slice_get l.code (l.low + k)))) (l.high - l.low) (l.place - l.low)
