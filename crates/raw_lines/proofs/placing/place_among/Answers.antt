use Rattle.std.proofs.Common.{◌≡◌, ◌<◌, ◌≤◌, false, [], Some, length, get_or, sym, ap, ◌∙◌, arith, below_more}
use Rattle.std.specs.Option.{option_map}
use Rattle.raw_text.proofs.Places.{position_found, position_absent}
use Rattle.raw_asm.specs.Section.{has_label}
use Rattle.raw_asm.specs.Tokens.{section_lines}
use Rattle.raw_lines.specs.Places.{size_in, place_in, size_at}
use Rattle.raw_lines.proofs.Labels.{place_next}
use Rattle.raw_lines.proofs.placing.place_among.Goals as goal

pub returns-then-has_label : goal.returns-then-has_label
returns-then-has_label c =
    let lines = section_lines c.args.section.now in
    let k = c.loop-at.at in
    let lt : k < length lines = omega (arith, c.loop-at-test.true, c.len-at-end.ensures.count) in
    ap Some c.loop-at.invariant.place
    ∙ sym (ap (option_map (place_in c.args.kind lines))
    (position_found (has_label c.args.name.now) lines k [] lt c.loop-at.invariant.none
    (ap (has_label c.args.name.now) (sym c.line-line.ensures) ∙ sym c.has_label.ensures ∙ c.if-has_label.true)))

pub loop-at-preserved : goal.loop-at-preserved
loop-at-preserved c =
    let kind = c.args.kind in
    let lines = section_lines c.args.section.now in
    let k = c.loop-at.at in
    let loop = c.loop-at.invariant in
    let lt : k < length lines = omega (arith, c.loop-at-test.true, c.len-at-end.ensures.count) in
    let size : c.size_in-place.result ≡ size_at kind lines k = c.size_in-place.ensures.value ∙ ap (size_in kind) c.line-line.ensures in
    record {
      place = omega (arith, loop.place, size, place_next kind lines k lt);
      bound = omega (arith, loop.bound, c.size_in-place.ensures.bound);
      none = below_more (λ k. has_label c.args.name.now (get_or lines k []) ≡ false) k loop.none
          (ap (has_label c.args.name.now) (sym c.line-line.ensures) ∙ sym c.has_label.ensures ∙ c.if-has_label.false);
    }

pub returns : goal.returns
returns c =
    let lines = section_lines c.args.section.now in
    let le : length lines ≤ c.loop-at.at = omega (arith, c.loop-at-test.false, c.len-at-end.ensures.count) in
    sym (ap (option_map (place_in c.args.kind lines))
    (position_absent (has_label c.args.name.now) lines [] (λ k lt. c.loop-at.invariant.none k (omega (arith, lt, le)))))
