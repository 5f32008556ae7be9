use Rattle.std.proofs.Common.{List}
use Rattle.raw_flow.specs.Places.{Holding, AreMarks}
use Rattle.raw_flow.proofs.Steps.{IsAt, nodes_rest, nodes_last}
use Rattle.raw_flow.proofs.compiling.give_nodes.Given as goal

-- the nodes so far have given their parts
abbrev pub invariant-loop-v : goal.invariant-loop-v
invariant-loop-v l = (held : List Holding) → AreMarks l.flow l.initial.places held → IsAt l.flow (nodes_rest l.flow l.ports) (nodes_last l.flow l.ports) held l.initial.programs l.programs l.places l.v
