use Rattle.raw_report.proofs.Runs.{same_report}
use Rattle.raw_report.proofs.laws.law_same_report.Goals as goal

pub returns : goal.returns
returns c = same_report
