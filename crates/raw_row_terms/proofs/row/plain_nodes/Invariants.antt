use Rattle.std.proofs.Common.{◌≡◌, map, take}
use Rattle.raw_stream.specs.Streams.{plain}
use Rattle.raw_row_terms.proofs.row.plain_nodes.Given as goal

abbrev pub invariant-loop-node : goal.invariant-loop-node
invariant-loop-node l = l.nodes.items ≡ map plain (take l.node-index l.row)
