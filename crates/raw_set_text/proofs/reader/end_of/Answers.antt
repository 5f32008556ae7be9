use Rattle.std.proofs.Common.{ap, sym, ◌∙◌, arith}
use Rattle.raw_asm.specs.Tokens.{section_lines}
use Rattle.raw_set_text.specs.Sections.{is_end}
use Rattle.raw_set_text.proofs.Reading.Lines.{end_found}
use Rattle.raw_set_text.proofs.reader.end_of.Goals as goal

pub returns-then-is_end : goal.returns-then-is_end
returns-then-is_end c = end_found (section_lines c.args.lines.now) c.args.from c.loop-place.place (omega arith) (omega arith) c.loop-place.invariant (λ lt. ap is_end (sym c.line.ensures) ∙ sym (c.if-is_end.ensures {u = tt}))

pub returns : goal.returns
returns c = end_found (section_lines c.args.lines.now) c.args.from c.len.result (omega arith) (omega arith) (λ k low high. c.loop-place.invariant k low (omega (arith, high))) (λ lt. absurd (omega (arith, lt)))
