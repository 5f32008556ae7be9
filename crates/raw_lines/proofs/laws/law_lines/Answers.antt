use Rattle.raw_lines.proofs.Programs.{programs_told}
use Rattle.raw_lines.proofs.laws.law_lines.Goals as goal

pub returns : goal.returns
returns c = λ lines set is. programs_told c.law_lawful.ensures c.law_lawful-2.ensures lines set is
