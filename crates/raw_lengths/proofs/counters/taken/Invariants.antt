use Rattle.std.proofs.Common.{◌≡◌, ◌≤◌, ◌++◌, [], drop}
use Rattle.raw_stream.specs.Streams.{taken}
use Rattle.raw_lengths.proofs.counters.taken.Given as goal

abbrev pub invariant-loop-node : goal.invariant-loop-node
invariant-loop-node l = (l.ins.items ++ taken (drop l.node-index l.row) (drop l.next l.carried) [] ≡ taken l.row l.carried []) × (l.next ≤ l.node-index)
