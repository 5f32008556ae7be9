use Rattle.std.proofs.Common.{◌≡◌, ◌<◌, ◌≤◌, List, length, Some, Err, ap, ◌∙◌, sym, subst, arith}
use Rattle.std.specs.Prelude.{slice_get}
use Rattle.std.proofs.lemmas.Option.{slice_get-get_or}
use Rattle.raw_flow.specs.declared.node.Node.{Node}
use Rattle.raw_flow.specs.Flows.{Dataflow}
use Rattle.raw_flow.specs.Compiled.{nodes_from, held_nodes}
use Rattle.raw_flow.proofs.Picked.{drop_past}
use Rattle.raw_flow.proofs.Steps.{nodes_rest, nodes_last, node_chunk, at_next, too_long, at_last}
use Rattle.raw_flow.proofs.compiling.give_nodes.Goals as goal

pub returns-in_err-give_node-clause-too_many : goal.returns-in_err-give_node-clause-too_many
returns-in_err-give_node-clause-too_many c = λ held are e.
    let k = rw e at c.from_residual.ensures in
    let flow = c.args.flow.now in
    let ports = c.args.ports.now in
    let v = c.loop-v.v in
    let at = c.loop-v.invariant held are in
    let node = c.index.result.now in
    let items = c.flow.inside.nodes.items in
    let within : v < length items = let a = c.loop-v-test.true in let b = c.len-v-end.ensures in let d = c.flow.inside.nodes.ok.0 in omega arith in
    let there : slice_get flow.nodes v ≡ Some node =
    subst (λ (xs : List Node). slice_get xs v ≡ Some node) (ap (λ (f : Dataflow). f.nodes) c.flow.view_is) (slice_get-get_or items v node within ∙ ap (λ (x : Node). Some x) (sym c.index.ensures)) in
    too_long c.law_giving.ensures flow (nodes_rest flow ports) (nodes_last flow ports) held c.args.programs.now c.loop-v.programs c.loop-v.places v at (node_chunk flow ports at.held v node there)
    (c.in_err-give_node.ensures.too_many at.held at.marked (ap (λ r. Err r) (sym k.1)))

pub loop-v-preserved : goal.loop-v-preserved
loop-v-preserved c =
    let flow = c.args.flow.now in
    let ports = c.args.ports.now in
    let v = c.loop-v.v in
    let node = c.index.result.now in
    let items = c.flow.inside.nodes.items in
    let within : v < length items = let a = c.loop-v-test.true in let b = c.len-v-end.ensures in let d = c.flow.inside.nodes.ok.0 in omega arith in
    let there : slice_get flow.nodes v ≡ Some node =
    subst (λ (xs : List Node). slice_get xs v ≡ Some node) (ap (λ (f : Dataflow). f.nodes) c.flow.view_is) (slice_get-get_or items v node within ∙ ap (λ (x : Node). Some x) (sym c.index.ensures)) in
    λ held are.
    let at = c.loop-v.invariant held are in
    at_next c.law_giving.ensures flow (nodes_rest flow ports) (nodes_last flow ports) held c.args.programs.now c.loop-v.programs c.loop-v.places v at
    (node_chunk flow ports at.held v node there) c.give_node.new.programs c.give_node.new.places (c.in_ok-give_node.ensures.given at.held at.marked)

pub returns-clause-given : goal.returns-clause-given
returns-clause-given c = λ held are.
    let flow = c.args.flow.now in
    let ports = c.args.ports.now in
    let v = c.loop-v.v in
    let at = c.loop-v.invariant held are in
    let past : length flow.nodes ≤ v =
    let a = c.loop-v-test.false in let b = c.len-v-end.ensures in let d = c.flow.inside.nodes.ok.0 in let e = ap (λ (f : Dataflow). length f.nodes) c.flow.view_is in omega arith in
    at_last c.law_giving.ensures flow (nodes_rest flow ports) (nodes_last flow ports) held c.args.programs.now c.loop-v.programs c.loop-v.places v at
    (ap (nodes_from flow ports at.held v) (drop_past flow.nodes v past)) (ap (held_nodes flow ports at.held v) (drop_past flow.nodes v past))
