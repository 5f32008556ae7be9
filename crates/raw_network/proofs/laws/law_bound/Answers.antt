use Rattle.std.specs.Prelude.{IsTrue}
use Rattle.raw_network.proofs.Bounds.{law_no_longer}
use Rattle.raw_network.proofs.Rests.{law_some_rest}
use Rattle.raw_network.proofs.laws.law_bound.Goals as goal

pub returns-clause-no_longer : goal.returns-clause-no_longer
returns-clause-no_longer L c = λ net fit left bounded. law_no_longer net (λ p l. IsTrue (fit p l)) left bounded

pub returns-clause-some_rest : goal.returns-clause-some_rest
returns-clause-some_rest L c = λ net fit left bounded. law_some_rest net (λ p l. IsTrue (fit p l)) left bounded
