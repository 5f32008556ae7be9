use Rattle.std.proofs.Common.{ap}
use Rattle.raw_model.specs.Outcomes.{outcome}
use Rattle.raw_report.specs.Report.{outcome_lines}
use Rattle.raw_state_text.proofs.Sections.{same_text}
use Rattle.raw_clock_text.proofs.writing.put_rest.Goals as goal

pub returns : goal.returns
returns g c =
    let set = c.args.run.now.machine.now.set in
    same_text _ _ _ _ _ (ap (λ s. outcome_lines set s (outcome set s)) c.args.run.now.state) c.put_outcome.ensures
