use Rattle.raw_model.proofs.Waiting.{covered}
use Rattle.raw_model.proofs.Awaited.{none_where_enabled, none_where_stopped, wait_is_unmet, wait_between, waits_for_other}
use Rattle.raw_model.proofs.laws.law_waits.Goals as goal

pub returns : goal.returns
returns c = record {
  covered = covered;
  none_where_enabled = none_where_enabled;
  none_where_stopped = none_where_stopped;
  unmet = wait_is_unmet;
  between = λ set s p w valid. wait_between set s p w valid;
  other = λ set s p q valid. waits_for_other set s p q valid;
}
