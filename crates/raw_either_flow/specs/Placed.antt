-- A flow with its ports and words, plain or of rows.
use Rattle.std.specs.Prelude.{ℕ, List}
use Rattle.raw_flow.specs.Flows.{Dataflow, IsFlow, AreInputs}
use Rattle.raw_flow.specs.Ports.{FlowPorts, ArePorts, usual_ports}
use Rattle.raw_flow_text.specs.Flows.{FedFlow}
use Rattle.raw_stream.specs.Unrolled.{unrolled}
use Rattle.raw_stream_text.specs.Streams.{FedStream}
use Rattle.raw_unroll.specs.Compiled.{stream_ports}

-- a flow, where its ports stand, and the words of its inputs in their order
pub record PlacedFlow : Type 0 where
  pub flow : Dataflow
  pub ports : FlowPorts
  pub inputs : List ℕ

-- each keeps what it is to keep
pub record IsPlacedFlow (placed : PlacedFlow) : Type 0 where
  pub flow : IsFlow placed.flow
  pub ports : ArePorts placed.flow placed.ports
  pub inputs : AreInputs placed.flow placed.inputs

-- a plain flow, and a stream as the flow that it is
abbrev pub plain_flow : FedFlow → PlacedFlow
plain_flow fed = record { flow = fed.flow; ports = usual_ports; inputs = fed.inputs }

abbrev pub stream_flow : FedStream → PlacedFlow
stream_flow fed = record { flow = unrolled fed.stream; ports = stream_ports fed.stream; inputs = fed.words }
