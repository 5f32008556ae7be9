use Rattle.raw_switch_asm.proofs.StatementBack.{register_first}
use Rattle.raw_switch_asm.proofs.laws.law_register_first.Goals as goal

pub returns : goal.returns
returns c = register_first
