use Rattle.std.proofs.Common.{ap, ◌∙◌}
use Rattle.raw_model.specs.StateTexts.{wire_line, values_line}
use Rattle.raw_state_text.proofs.lines.wire_line.Goals as goal

pub returns : goal.returns
unfolding wire_line
returns c = c.values_line.ensures ∙ ap (values_line c.args.wire.0) c.wire.ensures
