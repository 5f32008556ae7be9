use Rattle.std.proofs.Common.{◌≡◌, List, take}
use Rattle.raw_flow.specs.Flows.{inputs_in}
use Rattle.raw_flow.specs.Places.{Holding, AreMarks}
use Rattle.raw_flow.proofs.Steps.{IsAt, inputs_rest, inputs_last}
use Rattle.raw_flow.proofs.compiling.give_inputs.Given as goal

-- the inputs so far have given their parts, and so many they are
abbrev pub invariant-loop-v : goal.invariant-loop-v
invariant-loop-v l = record {
  taken : l.taken ≡ inputs_in (take l.v l.flow.nodes);
  given : (held : List Holding) → AreMarks l.flow l.initial.places held → IsAt l.flow (inputs_rest l.flow l.ports) (inputs_last l.flow l.ports) held l.initial.programs l.programs l.places l.v;
}
