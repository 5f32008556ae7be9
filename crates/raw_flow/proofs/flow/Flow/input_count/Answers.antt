use Rattle.std.proofs.Common.{◌≡◌, ◌<◌, List, length, get_or, take, ap, ◌∙◌, sym, subst, arith}
use Rattle.raw_flow.specs.declared.node.Node.{Node}
use Rattle.raw_flow.specs.declared.node.Node.TheVariants.{Input}
use Rattle.raw_flow.specs.Flows.{Dataflow, with_input, inputs_in}
use Rattle.raw_flow.proofs.Counting.{few_taken, one_more, inputs_next}
use Rattle.raw_flow.proofs.flow.Flow.input_count.Goals as goal

pub with_input-count-requires : goal.with_input-count-requires
with_input-count-requires c =
    let items = c.deref-node-items.result.now in
    let few = few_taken c.args.self.now.nodes c.loop-node.node-index in
    let one = one_more (get_or items c.loop-node.node-index Input) c.loop-node.count in
    let long = ap length c.deref-node-items.ensures.value in
    let limit = c.self.invariant.few in
    let within = c.loop-node-test.true in
    let is = c.loop-node.invariant in
    omega arith

pub loop-node-preserved : goal.loop-node-preserved
loop-node-preserved c =
    let nodes = c.args.self.now.nodes in
    let i = c.loop-node.node-index in
    let items = c.deref-node-items.result.now in
    let same : items ≡ nodes = c.deref-node-items.ensures.value ∙ ap (λ (f : Dataflow). f.nodes) c.self.view_is in
    let within : i < length nodes = subst (λ (xs : List Node). i < length xs) same c.loop-node-test.true in
    c.with_input-count.ensures
    ∙ ap (with_input (get_or items i Input)) c.loop-node.invariant
    ∙ ap (λ (xs : List Node). with_input (get_or xs i Input) (inputs_in (take i nodes))) same
    ∙ sym (inputs_next nodes i Input within)
