use Rattle.std.proofs.Common.{◌≡◌, take}
use Rattle.raw_flow.specs.Flows.{inputs_in}
use Rattle.raw_flow.proofs.giving.inputs_before.Given as goal

abbrev pub invariant-loop-u : goal.invariant-loop-u
invariant-loop-u l = l.count ≡ inputs_in (take l.u l.flow.nodes)
