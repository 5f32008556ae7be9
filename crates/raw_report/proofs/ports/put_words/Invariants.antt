use Rattle.std.proofs.Common.{drop, ℕ, List}
use Rattle.std.specs.List.{flat_map}
use Rattle.raw_report.specs.Lines.{word_line}
use Rattle.raw_state_text.proofs.Sections.{Begun}
use Rattle.raw_report.proofs.ports.put_words.Given as goal

abbrev pub invariant-loop-word : goal.invariant-loop-word
invariant-loop-word g l =
    let text : ℕ → List ℕ = word_line in
    let all = l.words in
    Begun (g.K.Sink.sight l.fn.out) (g.K.Sink.sight l.out) (flat_map text (drop l.word-index all)) (flat_map text all)
