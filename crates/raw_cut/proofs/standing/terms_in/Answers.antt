use Rattle.std.proofs.Common.{◌≡◌, List, [], ◌∷◌, ◌++◌, Some, sym, ap, ◌∙◌}
use Rattle.std.specs.Prelude.{slice_get}
use Rattle.raw_flow.specs.declared.node.Node.{Node}
use Rattle.raw_cut.proofs.Copies.{take_some}
use Rattle.raw_cut.proofs.standing.terms_in.Goals as goal

pub loop-number-preserved : goal.loop-number-preserved
loop-number-preserved c =
    let here : slice_get c.args.table.now c.loop-number.number ≡ Some c.in-Some.node = sym c.node.ensures ∙ c.in-Some.is in
    c.in_ok-push.ensures.items ∙ ap (λ (xs : List Node). xs ++ c.in-Some.node ∷ []) c.loop-number.invariant ∙ sym (take_some c.args.table.now c.loop-number.number c.in-Some.node here)
