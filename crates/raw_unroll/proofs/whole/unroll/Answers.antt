use Rattle.std.proofs.Common.{◌≡◌, ◌+◌, ◌*◌, ◌<◌, ◌≤◌, length, refl, sym, ap, subst, arith}
use Rattle.std.proofs.lemmas.Option.{none-some}
use Rattle.raw_flow.specs.declared.limits.TheConstants.{MAX_NODES}
use Rattle.raw_flow.specs.Flows.{IsFlow}
use Rattle.raw_stream.specs.Streams.{Stream}
use Rattle.raw_stream.specs.Unrolled.{word_count, unrolled}
use Rattle.raw_stream.proofs.Within.{unrolled_long}
use Rattle.raw_unroll.proofs.Rows.{all_nodes, all_places}
use Rattle.raw_unroll.proofs.Made.{fits, is_flow, made_is}
use Rattle.raw_unroll.proofs.whole.unroll.Goals as goal

pub returns-then-node_count-clause-none : goal.returns-then-node_count-clause-none
returns-then-node_count-clause-none c =
    let s : Stream = c.args.stream.now in
    let more : MAX_NODES < length (unrolled s).nodes = omega (arith, c.node_count.ensures, c.if-node_count.true, unrolled_long s) in
    (λ none. more, λ many. refl)

pub of_all-requires : goal.of_all-requires
of_all-requires c =
    let s : Stream = c.args.stream.now in
    let few : word_count s + s.count * length s.nodes ≤ MAX_NODES = omega (arith, c.node_count.ensures, c.if-node_count.false) in
    fits s c.requires few

pub due_places-requires : goal.due_places-requires
due_places-requires c =
    rw c.deref.ensures.value (all_places c.in_ok-unrolling.unrolling c.args.stream.now c.in_ok-unrolling.ensures)

pub invariant_of-result : goal.invariant_of-result
invariant_of-result c =
    let s : Stream = c.args.stream.now in
    let few : word_count s + s.count * length s.nodes ≤ MAX_NODES = omega (arith, c.node_count.ensures, c.if-node_count.false) in
    let cols : c.stream.inside.cols ≡ s.cols = cc (ap (λ (x : Stream). x.cols) c.stream.view_is) in
    let rows : c.stream.inside.rows ≡ s.rows = cc (ap (λ (x : Stream). x.rows) c.stream.view_is) in
    let same = made_is s c.stream.inside.cols c.stream.inside.rows c.in_ok-unrolling.unrolling.nodes.items c.in_ok-outs.outs.items cols rows (all_nodes c.in_ok-unrolling.unrolling s c.in_ok-unrolling.ensures) c.in_ok-outs.ensures in
    subst IsFlow (sym same) (is_flow s c.requires few)

pub returns-clause-value : goal.returns-clause-value
returns-clause-value c =
    let s : Stream = c.args.stream.now in
    let cols : c.stream.inside.cols ≡ s.cols = cc (ap (λ (x : Stream). x.cols) c.stream.view_is) in
    let rows : c.stream.inside.rows ≡ s.rows = cc (ap (λ (x : Stream). x.rows) c.stream.view_is) in
    made_is s c.stream.inside.cols c.stream.inside.rows c.in_ok-unrolling.unrolling.nodes.items c.in_ok-outs.outs.items cols rows (all_nodes c.in_ok-unrolling.unrolling s c.in_ok-unrolling.ensures) c.in_ok-outs.ensures

pub returns-clause-none : goal.returns-clause-none
returns-clause-none c =
    let s : Stream = c.args.stream.now in
    let few : word_count s + s.count * length s.nodes ≤ MAX_NODES = omega (arith, c.node_count.ensures, c.if-node_count.false) in
    (λ none. absurd (none-some _ (sym none)), λ many. absurd (omega (arith, many, few, unrolled_long s)))
