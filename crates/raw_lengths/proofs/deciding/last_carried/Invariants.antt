use Rattle.std.proofs.Common.{◌≡◌, ℕ, ◌++◌, map, take}
use Rattle.std.specs.Prelude.{replicate}
use Rattle.raw_flow.specs.declared.node.Node.TheVariants.{Input, Const}
use Rattle.raw_lengths.proofs.deciding.last_carried.Given as goal

abbrev pub invariant-loop-word : goal.invariant-loop-word
invariant-loop-word l = l.nodes.items ≡ replicate l.own Input ++ map (λ (word : ℕ). Const word) (take l.word-index l.words)
