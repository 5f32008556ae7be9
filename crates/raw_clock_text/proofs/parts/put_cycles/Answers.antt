use Rattle.std.proofs.Common.{ap, ◌∙◌}
use Rattle.raw_state_text.proofs.Sections.{same_text}
use Rattle.raw_clock_text.specs.Lines.{cycles_line}
use Rattle.raw_clock_text.proofs.parts.put_cycles.Goals as goal

pub returns : goal.returns
returns g c = same_text _ _ _ _ _ (c.cycles_line.ensures ∙ ap (cycles_line c.args.run.now.counts.now.cycles) c.args.run.now.steps) c.put_line.ensures
