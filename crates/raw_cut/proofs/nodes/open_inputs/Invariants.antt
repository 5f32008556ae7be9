use Rattle.std.proofs.Common.{◌≡◌}
use Rattle.std.specs.Prelude.{replicate}
use Rattle.raw_flow.specs.declared.node.Node.TheVariants.{Input}
use Rattle.raw_cut.proofs.nodes.open_inputs.Given as goal

abbrev pub invariant-loop-k : goal.invariant-loop-k
invariant-loop-k l = l.nodes.items ≡ replicate l._k Input
