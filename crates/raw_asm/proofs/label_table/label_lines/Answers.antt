use Rattle.std.proofs.Common.{◌∙◌, [], sym, arith}
use Rattle.raw_asm.specs.Tokens.{section_lines}
use Rattle.raw_asm.specs.Section.{has_label}
use Rattle.raw_asm.proofs.FirstPlaces.{position_next}
use Rattle.raw_asm.proofs.label_table.label_lines.Goals as goal

pub loop-line-preserved : goal.loop-line-preserved
loop-line-preserved c = λ name.
    let lines = section_lines c.args.section.now in
    c.in_ok-add_label.ensures name ∙ rw (c.loop-line.invariant name, c.line.ensures) (sym (position_next (has_label name) lines c.loop-line.line [] (omega (arith, c.len-line-end.ensures.count))))
