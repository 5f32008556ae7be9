use Rattle.raw_fabric_rule.proofs.Determined.{one_state}
use Rattle.raw_fabric_rule.proofs.Fire.{commit_is_step}
use Rattle.raw_fabric_rule.proofs.laws.law_rule.Goals as goal

pub returns-clause-one_state : goal.returns-clause-one_state
returns-clause-one_state c = one_state

pub returns-clause-commit : goal.returns-clause-commit
returns-clause-commit c = commit_is_step
