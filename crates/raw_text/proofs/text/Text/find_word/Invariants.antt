use Rattle.std.proofs.Common.{◌≡◌, ℕ, ◌<◌, false, get_or, []}
use Rattle.raw_text.specs.Text.{text_lines, is_word}
use Rattle.raw_text.proofs.text.Text.find_word.Given as goal

abbrev pub invariant-loop-line : goal.invariant-loop-line
invariant-loop-line l = (k : ℕ) → k < l.line → is_word l.word (get_or (text_lines l.self) k []) ≡ false
