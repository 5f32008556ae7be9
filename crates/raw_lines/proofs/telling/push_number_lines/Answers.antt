use Rattle.std.proofs.Common.{◌≡◌, ◌+◌, ◌<◌, ◌++◌, length, ap, ◌∙◌, arith}
use Rattle.std.specs.List.{flat_map, range_with_len}
use Rattle.raw_asm.specs.Tokens.{section_lines}
use Rattle.raw_lines.specs.Places.{size_in, place_in, size_at}
use Rattle.raw_lines.specs.Lines.{number_line, numbers_of_line}
use Rattle.raw_lines.proofs.Ranges.{one_more}
use Rattle.raw_lines.proofs.Labels.{place_next}
use Rattle.raw_lines.proofs.telling.push_number_lines.Goals as goal

pub loop-line-preserved : goal.loop-line-preserved
loop-line-preserved c =
    let kind = c.args.kind in
    let lines = section_lines c.args.section.now in
    let k = c.loop-line.line in
    let p = c.args.processor in
    let from = c.args.section.now.from in
    let loop = c.loop-line.invariant in
    let mid = c.loop-line.bytes.items in
    let lt : k < length lines = omega (arith, c.len-line-end.ensures.count) in
    let size : c.size_in-size.result ≡ size_at kind lines k = c.size_in-size.ensures.value ∙ ap (size_in kind) c.line.ensures in
    record {
      place = omega (arith, loop.place, size, place_next kind lines k lt);
      bound = omega (arith, loop.bound, c.size_in-size.ensures.bound);
      text = one_more (numbers_of_line kind p from lines) 0 k (k + 1) k _ mid _ (omega arith) (omega arith) loop.text
          (c.in_ok-push_numbers.ensures ∙ ap (λ i. mid ++ flat_map (λ j. number_line p from k (i + j)) (range_with_len 0 c.size_in-size.result)) loop.place
          ∙ ap (λ n. mid ++ flat_map (λ j. number_line p from k (place_in kind lines k + j)) (range_with_len 0 n)) size);
    }
