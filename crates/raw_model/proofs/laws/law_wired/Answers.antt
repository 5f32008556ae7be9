use Rattle.raw_model.proofs.Wired.{wired}
use Rattle.raw_model.proofs.Once.{sends_once}
use Rattle.raw_model.proofs.laws.law_wired.Goals as goal

pub returns : goal.returns
returns c = record { wired = λ set valid. wired set valid.topology; sends_once = sends_once }
