use Rattle.std.proofs.Common.{◌≡◌, ◌+◌, [], drop, length}
use Rattle.raw_flow.specs.Flows.{inputs_in, values_from}
use Rattle.raw_flow.proofs.values.values_of.Given as goal

-- the values so far, and then those of what is left, are those of all; the words that are left are those of the inputs that are left
abbrev pub invariant-loop-node : goal.invariant-loop-node
invariant-loop-node l = record {
  values : values_from l.inputs l.taken l.values.items (drop l.node-index l.nodes) ≡ values_from l.inputs 0 [] l.nodes;
  each : length l.values.items ≡ l.node-index;
  left : l.taken + inputs_in (drop l.node-index l.nodes) ≡ length l.inputs;
}
