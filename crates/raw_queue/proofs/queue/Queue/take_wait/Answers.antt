use Rattle.raw_queue.proofs.Order.{takes, learns}
use Rattle.raw_queue.proofs.queue.Queue.take_wait.Goals as goal

pub pop_as-requires-clause-rule : goal.pop_as-requires-clause-rule
pop_as-requires-clause-rule g c = (takes _ _ c.loop.invariant.taking.takes, learns _ _ c.loop.invariant.taking.takes)
