use Rattle.std.proofs.Common.{◌≡◌, length, ap, ◌∙◌, arith, take_all}
use Rattle.raw_text.specs.Text.{text_lines}
use Rattle.raw_lines.specs.Placing.{label_places}
use Rattle.raw_debug_live.specs.Serving.{labels_of}
use Rattle.raw_debug_live.proofs.labels.labels_of.Goals as goal

pub returns : goal.returns
returns c =
    let lines = text_lines c.begun.inside.0.1.0 in
    let count = c.line_count-count.result in
    let size : count ≡ length lines = c.line_count-count.ensures.count in
    c.in-Ok.ensures ∙ ap (label_places c.begun.inside.0.0.topo) (take_all count lines (omega (arith, size))) ∙ ap labels_of c.begun.view_is
