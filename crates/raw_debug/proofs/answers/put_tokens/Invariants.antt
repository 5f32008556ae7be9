use Rattle.std.proofs.Common.{drop}
use Rattle.raw_state_text.proofs.Sections.{Begun}
use Rattle.raw_debug.specs.Answers.{echo_line}
use Rattle.raw_debug.proofs.answers.put_tokens.Given as goal

abbrev pub invariant-loop-place : goal.invariant-loop-place
invariant-loop-place g l =
    let tokens = g.L.Tokens.tokens l.line in
    Begun (g.K.Sink.sight l.fn.out) (g.K.Sink.sight l.out) (echo_line (drop l.place tokens)) (echo_line (drop 1 tokens))
