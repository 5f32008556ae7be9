use Rattle.std.proofs.Common.{◌≡◌, ◌++◌, drop}
use Rattle.std.specs.List.{filter_map}
use Rattle.raw_stream.specs.Streams.{valued, next_of}
use Rattle.raw_cut.proofs.nodes.carried_out.Given as goal

abbrev pub invariant-loop-node : goal.invariant-loop-node
invariant-loop-node l = l.carried.items ++ valued l.numbers (filter_map next_of (drop l.node-index l.row)) ≡ valued l.numbers (filter_map next_of l.row)
