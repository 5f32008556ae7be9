use Rattle.raw_report.proofs.Bad.{either, not_both, one_bad}
use Rattle.raw_report.proofs.Written.{faultless, head, read_back}
use Rattle.raw_report.proofs.laws.law_history.Goals as goal

pub returns : goal.returns
returns c = record { faultless = faultless; head = head; read_back = read_back; either = either; not_both = not_both; one_bad = one_bad }
