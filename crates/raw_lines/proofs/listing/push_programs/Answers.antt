use Rattle.std.proofs.Common.{◌+◌, ◌++◌, ap, ◌∙◌, arith}
use Rattle.raw_lines.specs.Sections.{part_for}
use Rattle.raw_lines.specs.LabelsOf.{lines_in}
use Rattle.raw_lines.specs.Lines.{told_of, section_text, program_text}
use Rattle.raw_lines.proofs.Ranges.{one_more}
use Rattle.raw_lines.proofs.listing.push_programs.Goals as goal

pub loop-tile-preserved : goal.loop-tile-preserved
loop-tile-preserved c =
    let kind = c.args.kind in
    let topo = c.args.labels.now.topo.now in
    let lines = lines_in c.args.labels.now in
    let sections = c.args.labels.now.sections.items in
    let t = c.loop-tile.tile in
    let mid = c.loop-tile.bytes.items in
    one_more (program_text kind topo lines sections) 0 t (t + 1) t _ mid _ (omega arith) (omega arith) c.loop-tile.invariant
    (c.in_ok-push_program.ensures
    ∙ ap (λ part. mid ++ told_of (section_text kind c.name_of.result) part) c.part_for-part.ensures
    ∙ ap (λ name. mid ++ told_of (section_text kind name) (part_for lines sections kind topo t)) c.name_of.ensures)
