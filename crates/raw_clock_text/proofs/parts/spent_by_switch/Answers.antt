use Rattle.std.proofs.Common.{ap, ◌∙◌}
use Rattle.raw_clock_text.specs.Text.{spent_by}
use Rattle.raw_clock_text.proofs.parts.spent_by_switch.Goals as goal

pub returns : goal.returns
returns c = c.spent_by.ensures ∙ ap (spent_by c.args.run.now.machine.now.set c.args.run.now.counts.now.cycles) c.switch_number.ensures.value
