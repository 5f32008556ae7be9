use Rattle.raw_switch_asm.specs.Language.{switch_language}
use Rattle.raw_switch_asm.proofs.Lawful.{fronts_lawful}
use Rattle.raw_switch_asm.proofs.laws.law_lawful.Goals as goal

pub returns : goal.returns
returns c = fronts_lawful (λ wired. c.law_first_lines.ensures.given (switch_language wired)) (λ wired. c.law_first_lines.ensures.few (switch_language wired))
