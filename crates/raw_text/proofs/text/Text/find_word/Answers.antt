use Rattle.std.proofs.Common.{◌∙◌, [], sym, arith}
use Rattle.std.proofs.lemmas.List.{length-map}
use Rattle.raw_text.specs.Tokens.{line_tokens}
use Rattle.raw_text.specs.Text.{text_lines, is_word}
use Rattle.raw_text.proofs.Places.{position_found, position_absent}
use Rattle.raw_text.proofs.text.Text.find_word.Goals as goal

pub returns-then-is_word : goal.returns-then-is_word
returns-then-is_word c =
    let text = c.args.self.now in
    let count = length-map text.lines.items (line_tokens text.bytes.items text.starts.items) in
    sym (position_found (is_word c.args.word.now) (text_lines text) c.loop-line.line [] (omega (arith, count, text.lines.ok.0)) c.loop-line.invariant (sym c.is_word.ensures ∙ c.if-is_word.true))

pub returns : goal.returns
returns c =
    let text = c.args.self.now in
    let count = length-map text.lines.items (line_tokens text.bytes.items text.starts.items) in
    sym (position_absent (is_word c.args.word.now) (text_lines text) [] (λ k lt. c.loop-line.invariant k (omega (arith, count, text.lines.ok.0))))
