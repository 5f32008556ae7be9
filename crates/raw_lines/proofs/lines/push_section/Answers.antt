use Rattle.std.proofs.Common.{◌≡◌, ◌+◌, ◌<◌, ◌==◌, ◌++◌, length, ap, subst, ◌∙◌, arith, append_assoc}
use Rattle.std.specs.Prelude.{if◌then◌else◌}
use Rattle.std.specs.List.{flat_map, range_with_len}
use Rattle.std.proofs.lemmas.Result.{on_ok_weaker}
use Rattle.raw_asm.specs.Tokens.{section_lines}
use Rattle.raw_lines.specs.Places.{size_in, place_in, size_at}
use Rattle.raw_lines.specs.Lines.{line_text, last_text}
use Rattle.raw_lines.specs.Reading.{labels_between, StandHere}
use Rattle.raw_lines.proofs.Ranges.{one_more}
use Rattle.raw_lines.proofs.Labels.{place_next, stand_next, section_told}
use Rattle.raw_lines.proofs.lines.push_section.Goals as goal

pub loop-line-preserved : goal.loop-line-preserved
loop-line-preserved c =
    let kind = c.args.kind in
    let lines = section_lines c.args.section.now in
    let k = c.loop-line.line in
    let loop = c.loop-line.invariant in
    let lt : k < length lines = omega (arith, c.len-line-end.ensures.count) in
    let size : c.size_in-size.result ≡ size_at kind lines k = c.size_in-size.ensures.value ∙ ap (size_in kind) c.line.ensures in
    record {
      place = omega (arith, loop.place, size, place_next kind lines k lt);
      bound = omega (arith, loop.bound, c.size_in-size.ensures.bound);
      stand = stand_next kind lines c.loop-line.since k c.since_behind-since.result lt loop.stand (c.since_behind-since.ensures ∙ ap (λ n. if n == 0 then c.loop-line.since else k + 1) size);
      text = one_more (line_text kind c.args.name.now c.args.section.now.from lines) 0 k (k + 1) k _ _ _ (omega arith) (omega arith) loop.text (c.in_ok-push_line.ensures kind loop.place size loop.stand);
    }

pub returns : goal.returns
returns c =
    let kind = c.args.kind in
    let lines = section_lines c.args.section.now in
    let name = c.args.name.now in
    let from = c.args.section.now.from in
    let n = length lines in
    let loop = c.loop-line.invariant in
    let since = c.loop-line.since in
    let old = c.args.bytes.now.items in
    let f = line_text kind name from lines in
    let all : c.loop-line.line ≡ n = omega (arith, c.len-line-end.ensures.count) in
    let stand : StandHere kind lines since n = subst (StandHere kind lines since) all loop.stand in
    let text : c.loop-line.bytes.items ≡ old ++ flat_map f (range_with_len 0 n) = subst (λ k. c.loop-line.bytes.items ≡ old ++ flat_map f (range_with_len 0 k)) all loop.text in
    let place : c.loop-line.place ≡ place_in kind lines n = subst (λ k. c.loop-line.place ≡ place_in kind lines k) all loop.place in
    let labels = labels_between lines since n in
    on_ok_weaker c.push_last.result
    (λ d.
    d ∙ ap (λ t. t ++ last_text name c.loop-line.place labels) text ∙ append_assoc old (flat_map f (range_with_len 0 n)) (last_text name c.loop-line.place labels)
    ∙ ap (λ i. old ++ (flat_map f (range_with_len 0 n) ++ last_text name i labels)) place
    ∙ ap (λ t. old ++ t) (section_told kind lines name from since stand))
    c.push_last.ensures
