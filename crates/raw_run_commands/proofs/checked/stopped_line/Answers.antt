use Rattle.std.proofs.Common.{◌∙◌, ◌++◌, ap}
use Rattle.std.specs.Prelude.{codes}
use Rattle.raw_run_commands.proofs.CheckLines.{place_more}
use Rattle.raw_run_commands.proofs.checked.stopped_line.Goals as goal

pub returns : goal.returns
returns c = c.push_text.ensures.text ∙ ap (λ l. l ++ codes " stopped\n") c.place_line-line.ensures.text ∙ place_more c.args.place c.args.p (codes " stopped\n")
