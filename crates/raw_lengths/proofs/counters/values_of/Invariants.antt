use Rattle.std.proofs.Common.{◌≡◌, ◌≤◌, [], drop}
use Rattle.raw_flow.specs.Flows.{values_from}
use Rattle.raw_lengths.proofs.counters.values_of.Given as goal

-- the values so far, and then those of what is left, are those of all
abbrev pub invariant-loop-node : goal.invariant-loop-node
invariant-loop-node l = (values_from l.inputs l.taken l.values.items (drop l.node-index l.nodes) ≡ values_from l.inputs 0 [] l.nodes) × (l.taken ≤ l.node-index)
