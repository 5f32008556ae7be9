use Rattle.std.proofs.Common.{rules, ◌≡◌, ℕ, List, map, ap, ◌∙◌}
use Rattle.std.specs.List.{filter_map}
use Rattle.std.proofs.lemmas.Result.{IfOk-weaker}
use Rattle.raw_flow.specs.declared.node.Node.TheVariants.{Const}
use Rattle.raw_stream.specs.declared.row_node.RowNode.{RowNode}
use Rattle.raw_stream.specs.Streams.{first_of}
use Rattle.raw_cut.specs.Cuts.{cut_of}
use Rattle.raw_cut.proofs.Copies.{some_so}
use Rattle.raw_cut.proofs.Decided.{opens_from}
use Rattle.raw_cut.proofs.deciding.opens.Goals as goal

pub returns : goal.returns
returns c =
    let nodes_are : c.deref.result.now ≡ c.args.stream.now.nodes = search rules in
    IfOk-weaker c.leads.result _ _
    (λ yes leads e. opens_from c.args.set.now c.args.stream.now c.args.limit c.deref-2.result.now (cut_of c.in-Some.start) c.args.steps.now c.args.later (cut_of c.args.to.now)
    (c.deref-2.ensures.value ∙ c.in_ok-carried.ensures ∙ ap (λ (row : List RowNode). map (λ (word : ℕ). Const word) (filter_map first_of row)) nodes_are)
    (some_so _ c.in_ok-start.field-0 c.in-Some.start c.in-Some.is c.in_ok-start.ensures) (leads e))
    c.leads.ensures
