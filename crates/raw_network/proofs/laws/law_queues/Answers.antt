use Rattle.raw_network.proofs.Bounds.{law_depth}
use Rattle.raw_network.proofs.Flow.{law_queue}
use Rattle.raw_network.proofs.laws.law_queues.Goals as goal

pub returns-clause-queue : goal.returns-clause-queue
returns-clause-queue L c = λ net. law_queue net

pub returns-clause-depth : goal.returns-clause-depth
returns-clause-depth L c = λ net once. law_depth net once
