use Rattle.std.specs.Prelude.{IsTrue}
use Rattle.raw_network.proofs.Kept.{law_stays_fit}
use Rattle.raw_network.proofs.laws.law_invariant.Goals as goal

pub returns : goal.returns
returns L c = record { stays_fit = λ net fit fine kept. law_stays_fit net (λ p l. IsTrue (fit p l)) (λ value. IsTrue (fine value)) kept }
