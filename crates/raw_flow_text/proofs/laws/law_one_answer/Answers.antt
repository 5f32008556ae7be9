use Rattle.std.specs.Prelude.{length}
use Rattle.raw_answer.proofs.Places.{one_answer}
use Rattle.raw_flow_text.specs.Flows.{IsFed}
use Rattle.raw_flow_text.specs.Meaning.{fault_at, fed_in}
use Rattle.raw_flow_text.proofs.Sound.{faultless_fed}
use Rattle.raw_flow_text.proofs.laws.law_one_answer.Goals as goal

pub returns : goal.returns
returns c wanted from lines = one_answer (fault_at wanted lines) (length lines) from (fed_in lines) IsFed (faultless_fed wanted lines)
