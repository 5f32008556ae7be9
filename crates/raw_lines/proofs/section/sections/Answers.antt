use Rattle.std.proofs.Common.{◌≡◌, length, refl, subst, arith}
use Rattle.raw_asm.specs.Tokens.{section_lines}
use Rattle.raw_lines.specs.Sections.{sections_before}
use Rattle.raw_lines.proofs.Opening.{open_next, sections_next}
use Rattle.raw_lines.proofs.section.sections.Goals as goal

pub loop-place-init : goal.loop-place-init
loop-place-init c = record { current = record { section = refl; some = refl }; so_far = c.new-sections.ensures.items }

pub loop-place-preserved : goal.loop-place-preserved
loop-place-preserved c =
    let lines = section_lines c.args.lines.now in
    let loop = c.loop-place.invariant in
    record {
      current = open_next lines c.loop-place.place _ c.loop-place.current c.open_behind-current.result c.line-line.ensures loop.current c.open_behind-current.ensures;
      so_far = sections_next lines c.loop-place.place _ c.loop-place.current _ _ c.line-line.ensures loop.current loop.so_far c.in_ok-push_ended.ensures;
    }

pub returns : goal.returns
returns c =
    let lines = section_lines c.args.lines.now in
    let all : c.loop-place.place ≡ length lines = omega (arith, c.len-place-end.ensures.count) in
    subst (λ n. c.loop-place.sections.items ≡ sections_before lines n) all c.loop-place.invariant.so_far
