use Rattle.std.proofs.Common.{◌≡◌, ◌++◌, map, drop}
use Rattle.std.specs.List.{filter_map}
use Rattle.raw_flow.specs.declared.node.Node.TheVariants.{Const}
use Rattle.raw_stream.specs.Streams.{first_of}
use Rattle.raw_cut.proofs.nodes.known.Given as goal

abbrev pub invariant-loop-node : goal.invariant-loop-node
invariant-loop-node l = l.nodes.items ++ map (λ word. Const word) (filter_map first_of (drop l.node-index l.row)) ≡ map (λ word. Const word) (filter_map first_of l.row)
