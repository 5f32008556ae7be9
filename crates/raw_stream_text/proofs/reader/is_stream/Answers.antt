use Rattle.std.proofs.Common.{◌≡◌, ◌<◌, ◌-◌, length, get_or, take, drop, cond, sym, ap, ◌∙◌, subst, arith, []}
use Rattle.std.specs.Prelude.{codes}
use Rattle.std.specs.List.{filter}
use Rattle.std.specs.Str.{bytes_eq}
use Rattle.std.proofs.lemmas.Bool.{lt-ltb}
use Rattle.std.proofs.lemmas.List.{take_rest}
use Rattle.raw_text.specs.Text.{text_lines}
use Rattle.raw_asm.specs.Tokens.{tokens_of, section_lines}
use Rattle.raw_stream_text.specs.Meaning.{has_tokens, is_stream}
use Rattle.raw_stream_text.proofs.Second.{passes_at}
use Rattle.raw_stream_text.proofs.reader.is_stream.Goals as goal

pub returns-then-not-first : goal.returns-then-not-first
returns-then-not-first c =
    let lines = section_lines c.new-lines.result in
    let k = c.loop-place.place in
    let lt : k < length lines = omega arith in
    let one : length (filter has_tokens (take k lines)) ≡ 1 = c.loop-place.invariant ∙ ap (λ b. cond b 0 1) c.if-not-first.true in
    let told : 0 < length (tokens_of c.line-line.result) = omega arith in
    let some : 0 < length (get_or lines k []) = subst (λ line. 0 < length line) c.line-line.ensures told in
    let second = passes_at has_tokens [] lines k 1 lt one (lt-ltb 0 (length (get_or lines k [])) some) in
    let word : c.at.result.now ≡ get_or (get_or (filter has_tokens lines) 1 []) 0 [] = c.at.ensures ∙ ap (λ line. get_or line 0 []) (c.line-line.ensures ∙ sym second) in
    let is : c.eq.result ≡ bytes_eq (get_or (get_or (filter has_tokens lines) 1 []) 0 []) (codes "rows") = cc (word, c.eq.ensures, c.as_slice.ensures) in
    let whole : lines ≡ drop c.args.from (text_lines c.args.text.now) = c.new-lines.ensures.lines ∙ ap (λ n. take (n - c.args.from) (drop c.args.from (text_lines c.args.text.now))) c.line_count.ensures.count ∙ take_rest (text_lines c.args.text.now) c.args.from in
    subst (λ all. c.eq.result ≡ is_stream all) whole is
