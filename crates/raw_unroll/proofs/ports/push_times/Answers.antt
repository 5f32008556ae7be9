use Rattle.std.proofs.Common.{append_assoc, rules}
use Rattle.std.proofs.lemmas.Grind.{replicate_next}
use Rattle.raw_unroll.proofs.ports.push_times.Goals as goal

pub loop-preserved : goal.loop-preserved
loop-preserved c = search (rules, replicate_next, append_assoc, c.loop.invariant, c.in_ok-push.ensures.items)
