-- The flow that a stream is, as a whole.
use Rattle.std.proofs.Common.{◌≡◌, ℕ, ◌+◌, ◌*◌, ◌≤◌, List, length, ap, ◌∙◌, arith}
use Rattle.raw_flow.specs.declared.limits.TheConstants.{MAX_NODES}
use Rattle.raw_flow.specs.declared.node.Node.{Node}
use Rattle.raw_flow.specs.Flows.{Dataflow, IsFlow}
use Rattle.raw_stream.specs.Streams.{Stream}
use Rattle.raw_stream.specs.Unrolled.{word_count, unrolled}
use Rattle.raw_stream.specs.Kept.{IsStream}
use Rattle.raw_stream.proofs.Within.{unrolled_long, unrolled_lawful}
use Rattle.raw_unroll.specs.Known.{Fits}
use Rattle.raw_unroll.proofs.Dues.{some_out}

pub fits : (s : Stream) → IsStream s → word_count s + s.count * length s.nodes ≤ MAX_NODES → Fits s
fits s is few = record { named = is.named; few = few; few_in_row = is.few_nodes }

pub is_flow : (s : Stream) → IsStream s → word_count s + s.count * length s.nodes ≤ MAX_NODES → IsFlow (unrolled s)
is_flow s is few =
    let law = unrolled_lawful s is.named in
    record { size = is.size; few = omega (arith, few, unrolled_long s); nodes = law.nodes; some_out = some_out s is; outs = law.outs }

abbrev pub made : ℕ → ℕ → List Node → List ℕ → Dataflow
made cols rows nodes outs = record { cols = cols; rows = rows; nodes = nodes; outs = outs }

pub made_is : (s : Stream) (cols rows : ℕ) (nodes : List Node) (outs : List ℕ) → cols ≡ s.cols → rows ≡ s.rows → nodes ≡ (unrolled s).nodes → outs ≡ (unrolled s).outs → made cols rows nodes outs ≡ unrolled s
made_is s cols rows nodes outs wide high one other =
    ap (λ n. made n rows nodes outs) wide ∙ ap (λ n. made s.cols n nodes outs) high ∙ ap (λ ns. made s.cols s.rows ns outs) one ∙ ap (made s.cols s.rows (unrolled s).nodes) other
