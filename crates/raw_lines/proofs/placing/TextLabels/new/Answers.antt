use Rattle.std.proofs.Common.{ap, ◌∙◌}
use Rattle.raw_lines.specs.Placing.{label_places}
use Rattle.raw_lines.specs.LabelsOf.{lines_in}
use Rattle.raw_lines.proofs.placing.TextLabels.new.Goals as goal

pub returns : goal.returns
returns c =
    ap (λ topo. label_places topo (lines_in c.in_ok-labels.labels)) c.in_ok-labels.ensures.topo ∙ ap (label_places c.args.topo.now) c.in_ok-labels.ensures.lines
