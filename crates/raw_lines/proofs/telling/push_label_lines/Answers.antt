use Rattle.std.proofs.Common.{◌≡◌, ◌+◌, ◌<◌, ◌++◌, length, ap, ◌∙◌, arith}
use Rattle.raw_asm.specs.Tokens.{tokens_of, section_lines}
use Rattle.raw_lines.specs.Places.{size_in, place_in, size_at, label_in, label_at}
use Rattle.raw_lines.specs.Lines.{label_line}
use Rattle.raw_lines.proofs.Ranges.{one_more}
use Rattle.raw_lines.proofs.Labels.{place_next}
use Rattle.raw_lines.proofs.telling.push_label_lines.Goals as goal

pub loop-at-preserved : goal.loop-at-preserved
loop-at-preserved c =
    let kind = c.args.kind in
    let lines = section_lines c.args.section.now in
    let k = c.loop-at.at in
    let p = c.args.processor in
    let loop = c.loop-at.invariant in
    let mid = c.loop-at.bytes.items in
    let lt : k < length lines = omega (arith, c.len-at-end.ensures.count) in
    let size : c.size_in-place.result ≡ size_at kind lines k = c.size_in-place.ensures.value ∙ ap (size_in kind) c.line-line.ensures in
    record {
      place = omega (arith, loop.place, size, place_next kind lines k lt);
      bound = omega (arith, loop.bound, c.size_in-place.ensures.bound);
      text = one_more (λ j. label_line p (place_in kind lines j) (label_at lines j)) 0 k (k + 1) k _ mid _ (omega arith) (omega arith) loop.text
          (c.in_ok-push_label_line.ensures ∙ ap (λ i. mid ++ label_line p i (label_in (tokens_of c.line-line.result))) loop.place
          ∙ ap (λ t. mid ++ label_line p (place_in kind lines k) (label_in t)) c.line-line.ensures);
    }
