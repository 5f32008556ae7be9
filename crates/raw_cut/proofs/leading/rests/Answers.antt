use Rattle.std.proofs.Common.{◌≡◌, List, map, ◌∙◌, subst}
use Rattle.std.proofs.lemmas.Result.{IfOk-weaker}
use Rattle.raw_grid.specs.Topology.{tile_count}
use Rattle.raw_model.specs.Program.{ProgramSet}
use Rattle.raw_flow.specs.declared.node.Node.{Node}
use Rattle.raw_stream.specs.Streams.{Stream}
use Rattle.raw_term.specs.TermMachine.{TermState}
use Rattle.raw_rows.specs.Kernels.{Cut, unknown, passed, HasDue}
use Rattle.raw_prove.specs.Units.{state_of}
use Rattle.raw_cut.specs.declared.leading.Begun.{Begun}
use Rattle.raw_cut.specs.Cuts.{cut_of}
use Rattle.raw_cut.specs.Seeing.{ComesToRest}
use Rattle.raw_cut.proofs.Copies.{some_so}
use Rattle.raw_cut.proofs.Decided.{unknown_is}
use Rattle.raw_cut.proofs.Facing.{rests_due}
use Rattle.raw_cut.proofs.leading.rests.Goals as goal

pub returns : goal.returns
returns c =
    let s : Stream = c.args.stream.now in
    let set : ProgramSet = c.args.set.now in
    let from : Cut = cut_of c.args.from.now in
    let last : Begun = c.in-Some-2.last in
    let at : TermState = state_of last.machine in
    let carried_is : c.in_ok-carried.carried.items ≡ unknown s = unknown_is s c.in-Some.widths.carried c.in_ok-carried.carried.items c.in_ok-carried.ensures c.in-Some.ensures.carried in
    let rests : ComesToRest set s c.args.limit (unknown s) from c.args.steps.now c.args.many last =
    subst (λ (nodes : List Node). ComesToRest set s c.args.limit nodes from c.args.steps.now c.args.many last) (c.deref.ensures.value ∙ carried_is)
    (some_so _ c.in_ok-last.field-0 last c.in-Some-2.is c.in_ok-last.ensures.rests) in
    IfOk-weaker c.has_all_due.result _ _
    (λ yes due e. rests_due set s c.args.limit (unknown s) from c.args.steps.now c.args.lacks.now c.args.many last rests
    (subst (λ vs. HasDue s (tile_count last.set.topo) (passed s (unknown s) at (map (λ row. row.items) vs)).values c.args.lacks.now at.state) c.deref-3.ensures.value
    (subst (λ (nodes : List Node). HasDue s (tile_count last.set.topo) (passed s nodes at (map (λ row. row.items) c.deref-3.result.now)).values c.args.lacks.now at.state) (c.deref-2.ensures.value ∙ carried_is) (due e))))
    c.has_all_due.ensures

pub has_all_due-requires-clause-kept : goal.has_all_due-requires-clause-kept
has_all_due-requires-clause-kept c = some_so _ c.in_ok-last.field-0 c.in-Some-2.last c.in-Some-2.is c.in_ok-last.ensures.kept
