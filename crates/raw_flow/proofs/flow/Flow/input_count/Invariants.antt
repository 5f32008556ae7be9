use Rattle.std.proofs.Common.{◌≡◌, take}
use Rattle.raw_flow.specs.Flows.{inputs_in}
use Rattle.raw_flow.proofs.flow.Flow.input_count.Given as goal

abbrev pub invariant-loop-node : goal.invariant-loop-node
invariant-loop-node l = l.count ≡ inputs_in (take l.node-index l.self.nodes)
