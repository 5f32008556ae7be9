use Rattle.std.proofs.Common.{◌≡◌, List, ℕ, Option, subst}
use Rattle.std.specs.Prelude.{IfSome}
use Rattle.raw_flow.specs.Flows.{Dataflow}
use Rattle.raw_flow.specs.Ports.{FlowPorts}
use Rattle.raw_flow.specs.Right.{EachRunIsRightAt}
use Rattle.raw_stream.specs.Streams.{Stream}
use Rattle.raw_stream.specs.Unrolled.{unrolled}
use Rattle.raw_unroll.proofs.Placed.{run_is_right}
use Rattle.raw_unroll.proofs.compiling.compile_stream.Goals as goal

pub returns-clause-right : goal.returns-clause-right
returns-clause-right c =
    let s : Stream = c.args.stream.now in
    let words : List ℕ = c.args.words.now in
    let flow_is : c.in-Some.flow ≡ unrolled s =
    subst (λ (o : Option Dataflow). IfSome o (λ flow. flow ≡ unrolled s)) c.in-Some.is c.in_ok-flow.ensures.value in
    run_is_right c.law_unrolled.ensures.rows s words c.requires.stream
    (subst (λ (ports : FlowPorts). EachRunIsRightAt (unrolled s) ports words) c.in_ok-ports.ensures
    (subst (λ (flow : Dataflow). EachRunIsRightAt flow c.in_ok-ports.ports words) flow_is c.in_ok-set.ensures.right))
