use Rattle.std.proofs.Common.{◌≡◌, ◌∙◌, ◌+◌, ◌<◌, ◌++◌, length, sym, ap, arith, length-append}
use Rattle.raw_asm.specs.Emitted.{emitted}
use Rattle.raw_asm.specs.Tokens.{section_lines}
use Rattle.raw_asm.proofs.AllLines.{code_next, faultless_next, place_next}
use Rattle.raw_asm.proofs.assembling.assemble.Goals as goal

pub loop-line-preserved : goal.loop-line-preserved
loop-line-preserved g c =
    let language = g.S.Statements.language c.args.statements.now in
    let lines = section_lines c.args.section.now in
    let k = c.loop-line.line in
    let old = c.loop-line.program.items in
    let gave = emitted c.in-Ok.gave in
    let loop = c.loop-line.invariant in
    let lt : k < length lines = omega (arith, c.len-line-end.ensures.count) in
    let items = c.in_ok-push_emitted-in-Ok.ensures in
    let long : length c.push_emitted.new.program.items ≡ length old + length gave = ap length items ∙ length-append old gave in
    record {
      code = items ∙ ap (λ r. r ++ gave) loop.code ∙ sym (code_next language lines k gave c.in-Ok.ensures.code);
      place = omega (arith, long, place_next language lines k lt, c.in-Ok.ensures.size, loop.place);
      short = omega (arith, long, c.in-Ok.ensures.fits, c.len.ensures);
      faultless = faultless_next language lines k gave c.in-Ok.ensures.code loop.faultless;
    }
