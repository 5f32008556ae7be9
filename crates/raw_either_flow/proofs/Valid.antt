-- What a flow with its ports keeps, where a plain flow or a stream keeps what it is to keep.
use Rattle.std.proofs.Common.{◌≤◌, None, length, sym, ◌∙◌}
use Rattle.raw_flow.specs.declared.limits.TheConstants.{MAX_NODES}
use Rattle.raw_flow.proofs.Usual.{usual_are}
use Rattle.raw_flow_text.specs.Flows.{FedFlow}
use Rattle.raw_flow_text.specs.Flows as flow_text
use Rattle.raw_stream.specs.Unrolled.{unrolled}
use Rattle.raw_stream_text.specs.Streams.{FedStream}
use Rattle.raw_stream_text.specs.Meaning.{IsFed}
use Rattle.raw_unroll.specs.Compiled.{EachStreamIsPlaced}
use Rattle.raw_either_flow.specs.Placed.{IsPlacedFlow, plain_flow, stream_flow}

pub plain_valid : (fed : FedFlow) → flow_text.IsFed fed → IsPlacedFlow (plain_flow fed)
plain_valid fed is = record { flow = is.flow; ports = usual_are fed.flow is.flow; inputs = is.inputs }

pub stream_valid : EachStreamIsPlaced → (fed : FedStream) → IsFed None fed → length (unrolled fed.stream).nodes ≤ MAX_NODES → IsPlacedFlow (stream_flow fed)
stream_valid law fed is few =
    let placed = law fed.stream is.stream few in
    record { flow = placed.flow; ports = placed.ports; inputs = record { each = is.enough ∙ sym placed.inputs; words = is.words } }
