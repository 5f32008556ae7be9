use Rattle.raw_model.proofs.Resting.{chain_stops, outcome_says}
use Rattle.raw_model.proofs.laws.law_outcome.Goals as goal

pub returns : goal.returns
returns c = record { says = outcome_says; chains = chain_stops }
