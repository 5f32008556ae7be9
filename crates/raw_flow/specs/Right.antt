-- What every run of a compiled set does.
use Rattle.std.specs.Prelude.{◌≡◌, ℕ, ◌+◌, ◌*◌, ◌<◌, List, length, slice_get}
use Rattle.raw_model.specs.Program.{IsSet}
use Rattle.raw_model.specs.Start.{MachineState}
use Rattle.raw_model.specs.Rest.{IsRun, end}
use Rattle.raw_model.specs.Outcomes.{Done, outcome}
use Rattle.raw_model.specs.Parts.{got_of}
use Rattle.raw_codegen.specs.Limits.{AreShort}
use Rattle.raw_flow.specs.Flows.{Dataflow, IsFlow, AreInputs, outs_of}
use Rattle.raw_flow.specs.Ports.{FlowPorts, ArePorts, picked}
use Rattle.raw_flow.specs.Compiled.{tiles_in, compiled_at, compiled}

-- those of sink q, which stands behind tiles, switches, the sources and the sinks before it
abbrev pub words_at_sink : Dataflow → FlowPorts → ℕ → MachineState → List ℕ
words_at_sink flow ports q s = got_of (slice_get s.locals (2 * tiles_in flow + (length ports.sources + q)))

-- a state in which all is done, and each sink has the values of the outs that go to it, in their order
pub record IsRightAt (flow : Dataflow) (ports : FlowPorts) (inputs : List ℕ) (s : MachineState) : Type 0 where
  pub done : outcome (compiled_at flow ports inputs) s ≡ Done
  pub values : (q : ℕ) → q < length ports.sinks → words_at_sink flow ports q s ≡ picked q ports.goes (outs_of flow inputs)

-- every lawful list of steps of the compiled set that comes to rest ends in such a state
abbrev pub EachRunIsRightAt : Dataflow → FlowPorts → List ℕ → Type 0
EachRunIsRightAt flow ports inputs =
    (steps : List ℕ) → IsRun (compiled_at flow ports inputs) steps → IsRightAt flow ports inputs (end (compiled_at flow ports inputs) steps)

-- so it is for every flow, wherever its ports stand, with its inputs
abbrev pub EachPlacedFlowIsRight : Type 0
EachPlacedFlowIsRight =
    (flow : Dataflow) (ports : FlowPorts) (inputs : List ℕ) → IsFlow flow → ArePorts flow ports → AreInputs flow inputs →
    IsSet (compiled_at flow ports inputs) → EachRunIsRightAt flow ports inputs

-- where its programs are within the limits, the compiled set keeps all that sets keep
abbrev pub EachPlacedIsSet : Type 0
EachPlacedIsSet =
    (flow : Dataflow) (ports : FlowPorts) (inputs : List ℕ) → IsFlow flow → ArePorts flow ports → AreInputs flow inputs →
    AreShort (compiled_at flow ports inputs).tiles → IsSet (compiled_at flow ports inputs)

-- With the usual ports: the words of the sink, which stands behind tiles, switches and the source.
abbrev pub sink_words : Dataflow → MachineState → List ℕ
sink_words flow s = got_of (slice_get s.locals (2 * tiles_in flow + 1))

-- a state in which all is done, and the sink has the values of the outs
pub record IsRight (flow : Dataflow) (inputs : List ℕ) (s : MachineState) : Type 0 where
  pub done : outcome (compiled flow inputs) s ≡ Done
  pub values : sink_words flow s ≡ outs_of flow inputs

-- every lawful list of steps of the compiled set that comes to rest ends in such a state
abbrev pub EachRunIsRight : Dataflow → List ℕ → Type 0
EachRunIsRight flow inputs = (steps : List ℕ) → IsRun (compiled flow inputs) steps → IsRight flow inputs (end (compiled flow inputs) steps)

-- so it is for every flow with its inputs
abbrev pub EachFlowIsRight : Type 0
EachFlowIsRight =
    (flow : Dataflow) (inputs : List ℕ) → IsFlow flow → AreInputs flow inputs → IsSet (compiled flow inputs) → EachRunIsRight flow inputs

-- where its programs are within the limits, the compiled set keeps all that sets keep
abbrev pub EachIsSet : Type 0
EachIsSet =
    (flow : Dataflow) (inputs : List ℕ) → IsFlow flow → AreInputs flow inputs →
    AreShort (compiled flow inputs).tiles → IsSet (compiled flow inputs)
