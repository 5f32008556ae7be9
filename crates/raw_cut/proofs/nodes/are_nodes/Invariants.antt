use Rattle.std.proofs.Common.{◌≡◌, ℕ, ◌<◌, Some}
use Rattle.std.specs.Prelude.{slice_get}
use Rattle.raw_flow.specs.declared.node.Node.{Node}
use Rattle.raw_flow.specs.Flows.{IsNode}
use Rattle.raw_cut.proofs.nodes.are_nodes.Given as goal

abbrev pub invariant-loop-place : goal.invariant-loop-place
invariant-loop-place l = (v : ℕ) (node : Node) → v < l.place → slice_get l.nodes v ≡ Some node → IsNode v node
