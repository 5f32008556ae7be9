use Rattle.std.proofs.Common.{◌≡◌, ◌<◌, List, length, take, Some, ap, ◌∙◌, sym, subst, arith}
use Rattle.std.specs.Prelude.{slice_get}
use Rattle.std.proofs.lemmas.Option.{slice_get-get_or, get_or_from_slice_get}
use Rattle.raw_flow.specs.declared.node.Node.{Node}
use Rattle.raw_flow.specs.Flows.{Dataflow, with_input, inputs_in}
use Rattle.raw_flow.proofs.Counting.{few_taken, one_more, inputs_next}
use Rattle.raw_flow.proofs.giving.inputs_before.Goals as goal

pub with_input-count-requires : goal.with_input-count-requires
with_input-count-requires c =
    let few = few_taken c.args.flow.now.nodes c.loop-u.u in
    let one = one_more c.index.result.now c.loop-u.count in
    let is = c.loop-u.invariant in
    let within = c.loop-u-test.true in
    let before = c.requires in
    let long = ap (λ (f : Dataflow). length f.nodes) c.flow.view_is in
    let limit = c.flow.invariant.few in
    omega arith

pub loop-u-preserved : goal.loop-u-preserved
loop-u-preserved c =
    let nodes = c.args.flow.now.nodes in
    let items = c.flow.inside.nodes.items in
    let u = c.loop-u.u in
    let node = c.index.result.now in
    let long : length items ≡ length nodes = ap (λ (f : Dataflow). length f.nodes) c.flow.view_is in
    let within : u < length nodes = let a = c.loop-u-test.true in let b = c.requires in omega arith in
    let inside : u < length items = omega arith in
    let there : slice_get nodes u ≡ Some node =
    subst (λ (xs : List Node). slice_get xs u ≡ Some node) (ap (λ (f : Dataflow). f.nodes) c.flow.view_is) (slice_get-get_or items u node inside ∙ ap (λ (x : Node). Some x) (sym c.index.ensures)) in
    c.with_input-count.ensures
    ∙ ap (with_input node) c.loop-u.invariant
    ∙ ap (λ (n : Node). with_input n (inputs_in (take u nodes))) (sym (get_or_from_slice_get nodes u node node there))
    ∙ sym (inputs_next nodes u node within)
