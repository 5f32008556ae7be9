use Rattle.std.proofs.Common.{ap}
use Rattle.raw_queue.specs.declared.view.EndView.{EndView}
use Rattle.raw_queue.proofs.Order.{joins, takes, learns}
use Rattle.raw_queue.proofs.queue.Queue.close.Goals as goal

pub absorb-requires-clause-rule : goal.absorb-requires-clause-rule
absorb-requires-clause-rule g c = joins _ _ _ _ c.put.invariant.puts c.take.invariant.takes

pub pop_as-requires-clause-rule : goal.pop_as-requires-clause-rule
pop_as-requires-clause-rule g c =
    let may = ap (λ (v : EndView). v.takes) c.loop.invariant.drained.1 in (takes _ _ may, learns _ _ may)
