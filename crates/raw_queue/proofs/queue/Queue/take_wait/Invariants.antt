use Rattle.std.proofs.Common.{◌≡◌}
use Rattle.raw_queue.specs.Passes.{IsTaking, queue_of}
use Rattle.raw_queue.proofs.queue.Queue.take_wait.Given as goal

abbrev pub invariant-loop : goal.invariant-loop
invariant-loop g l = record {
  taking : IsTaking l.end-inside.pass;
  queue : queue_of l.end-inside.pass ≡ l.fn.end.queue;
  same : l.end-inside.pass.me.view.client.taken ≡ l.fn.end.items;
}
