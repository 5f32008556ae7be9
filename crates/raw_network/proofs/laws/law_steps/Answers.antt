use Rattle.raw_network.proofs.Erased.{length-events_of}
use Rattle.raw_network.proofs.Kth.{kth_at, in_turn}
use Rattle.raw_network.proofs.laws.law_steps.Goals as goal

pub returns-clause-kth : goal.returns-clause-kth
returns-clause-kth L c = λ net. kth_at net

pub returns-clause-events : goal.returns-clause-events
returns-clause-events L c = λ net. length-events_of net

pub returns-clause-in_turn : goal.returns-clause-in_turn
returns-clause-in_turn L c = λ net. in_turn net
