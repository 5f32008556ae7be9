use Rattle.raw_queue.proofs.Order.{puts}
use Rattle.raw_queue.proofs.queue.Queue.put.Goals as goal

pub push_as-requires-clause-rule : goal.push_as-requires-clause-rule
push_as-requires-clause-rule g c = λ n. puts n _ _ _ c.end.invariant.puts
