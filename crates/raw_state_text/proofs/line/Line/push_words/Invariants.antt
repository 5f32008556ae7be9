use Rattle.std.proofs.Common.{◌≡◌, ◌+◌, ◌*◌, ◌++◌, length, drop}
use Rattle.raw_model.specs.Texts.{words_text}
use Rattle.raw_state_text.proofs.line.Line.push_words.Given as goal

abbrev pub invariant-loop-word : goal.invariant-loop-word
invariant-loop-word l = record {
  text : l.self ++ words_text (drop l.word-index l.words) ≡ l.initial.self ++ words_text l.words;
  len : length l.self ≡ length l.initial.self + 9 * l.word-index;
}
