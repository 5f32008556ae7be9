use Rattle.std.proofs.Common.{List}
use Rattle.raw_flow.specs.Places.{Holding, AreMarks}
use Rattle.raw_flow.proofs.Steps.{IsAt, outs_rest, outs_last}
use Rattle.raw_flow.proofs.compiling.give_outs.Given as goal

-- the outs so far have given their parts
abbrev pub invariant-loop-i : goal.invariant-loop-i
invariant-loop-i l = (held : List Holding) → AreMarks l.flow l.initial.places held → IsAt l.flow (outs_rest l.flow l.ports) (outs_last l.flow l.ports) held l.initial.programs l.programs l.places l.i
