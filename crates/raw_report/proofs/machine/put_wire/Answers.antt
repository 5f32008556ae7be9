use Rattle.raw_state_text.proofs.Sections.{same_text}
use Rattle.raw_report.proofs.machine.put_wire.Goals as goal

pub returns : goal.returns
returns g c = same_text _ _ _ _ _ c.wire_line.ensures c.put_line.ensures
