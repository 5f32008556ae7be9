use Rattle.std.proofs.Common.{◌≡◌, ◌≤◌, ◌++◌, drop}
use Rattle.raw_stream.specs.Streams.{taken}
use Rattle.raw_row_terms.proofs.row.taken.Given as goal

abbrev pub invariant-loop-node : goal.invariant-loop-node
invariant-loop-node l =
    (l.ins.items ++ taken (drop l.node-index l.row) (drop l.next_carried l.carried) (drop l.next_word l.words) ≡ taken l.row l.carried l.words)
    × (l.next_carried ≤ l.node-index)
    × (l.next_word ≤ l.node-index)
