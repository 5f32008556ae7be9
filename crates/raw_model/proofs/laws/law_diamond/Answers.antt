use Rattle.raw_model.proofs.Orders.{still_enabled, same_state, same_events}
use Rattle.raw_model.proofs.laws.law_diamond.Goals as goal

pub returns : goal.returns
returns c = record {
  still_enabled = λ set s p q valid. still_enabled set valid s p q;
  same_state = λ set s p q valid. same_state set valid s p q;
  same_events = λ set s p q valid. same_events set valid s p q;
}
