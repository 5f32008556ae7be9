-- What a flow's compiled set says of the flow as a claim.
use Rattle.std.specs.Prelude.{ℕ, List}
use Rattle.raw_codegen.specs.Limits.{AreShort}
use Rattle.raw_flow.specs.Flows.{Dataflow, IsFlow, AreInputs}
use Rattle.raw_flow.specs.Compiled.{compiled}
use Rattle.raw_term.specs.Claims.{Meets}

-- where its programs are within the limits, the compiled set of a flow meets the flow
abbrev pub EachCompiledMeets : Type 0
EachCompiledMeets =
    (flow : Dataflow) (inputs : List ℕ) → IsFlow flow → AreInputs flow inputs → AreShort (compiled flow inputs).tiles → Meets (compiled flow inputs) flow
