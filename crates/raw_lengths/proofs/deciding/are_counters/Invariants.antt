use Rattle.std.proofs.Common.{◌≡◌, ℕ, ◌<◌, length, Some}
use Rattle.std.specs.Prelude.{slice_get}
use Rattle.raw_stream.specs.declared.row_node.RowNode.{RowNode}
use Rattle.raw_stream.specs.Streams.{IsRowNode}
use Rattle.raw_lengths.proofs.deciding.are_counters.Given as goal

abbrev pub invariant-loop-place : goal.invariant-loop-place
invariant-loop-place l = (v : ℕ) (node : RowNode) → v < l.place → slice_get l.nodes v ≡ Some node → IsRowNode 0 (length l.nodes) v node
