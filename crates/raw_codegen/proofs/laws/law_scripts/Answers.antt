use Rattle.raw_codegen.proofs.Scripts.{codes, few, switch_codes, few_switch}
use Rattle.raw_codegen.proofs.laws.law_scripts.Goals as goal

pub returns : goal.returns
returns c = record { code = codes; few = few; switch_code = switch_codes; few_switch = few_switch }
