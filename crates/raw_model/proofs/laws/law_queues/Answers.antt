use Rattle.raw_model.proofs.Queues.{queue, depth}
use Rattle.raw_model.proofs.laws.law_queues.Goals as goal

pub returns : goal.returns
returns c = record { queue = queue; depth = depth }
