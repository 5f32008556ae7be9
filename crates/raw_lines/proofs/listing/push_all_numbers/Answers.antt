use Rattle.std.proofs.Common.{◌+◌, ◌++◌, ap, ◌∙◌, arith}
use Rattle.raw_lines.specs.Sections.{part_for}
use Rattle.raw_lines.specs.LabelsOf.{lines_in}
use Rattle.raw_lines.specs.Lines.{told_of, number_lines, numbers_of}
use Rattle.raw_lines.proofs.Ranges.{one_more}
use Rattle.raw_lines.proofs.listing.push_all_numbers.Goals as goal

pub loop-tile-preserved : goal.loop-tile-preserved
loop-tile-preserved c =
    let kind = c.args.kind in
    let topo = c.args.labels.now.topo.now in
    let lines = lines_in c.args.labels.now in
    let sections = c.args.labels.now.sections.items in
    let t = c.loop-tile.tile in
    let mid = c.loop-tile.bytes.items in
    one_more (numbers_of kind topo lines sections) 0 t (t + 1) t _ mid _ (omega arith) (omega arith) c.loop-tile.invariant
    (c.in_ok-push_numbers.ensures
    ∙ ap (λ part. mid ++ told_of (number_lines kind c.processor_of.result) part) c.part_for-part.ensures
    ∙ ap (λ p. mid ++ told_of (number_lines kind p) (part_for lines sections kind topo t)) c.processor_of.ensures)
