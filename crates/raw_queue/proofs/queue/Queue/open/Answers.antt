use Rattle.std.proofs.Common.{rules}
use Rattle.raw_queue.proofs.Order.{begins, parts}
use Rattle.raw_queue.proofs.queue.Queue.open.Goals as goal

pub with_rule-requires : goal.with_rule-requires
with_rule-requires c = begins

pub another-taking-requires-clause-rule : goal.another-taking-requires-clause-rule
another-taking-requires-clause-rule c = parts _ _ (search rules) (search rules)
