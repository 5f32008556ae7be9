use Rattle.std.proofs.Common.{rules, ◌≡◌, ℕ, suc, ◌<◌, List, [], ◌∷◌, ◌++◌, length, drop, get_or, Err, sym, subst, drop-cons}
use Rattle.raw_flow.specs.declared.node.Node.{Node}
use Rattle.raw_flow.specs.declared.node.Node.TheVariants.{Input}
use Rattle.raw_flow.specs.Flows.{with_input}
use Rattle.raw_term.specs.declared.refusal.TermRefusal.TheVariants.{TooMany}
use Rattle.raw_term.specs.Terms.{Overflows, Numbered}
use Rattle.raw_term.specs.Claims.{ClaimTerms}
use Rattle.raw_row_terms.specs.RowTerms.{placed_node, placed_from}
use Rattle.raw_row_terms.proofs.Longer.{placed_over}
use Rattle.raw_row_terms.proofs.terms.place.Goals as goal

pub returns-in_err-number-clause-too_many : goal.returns-in_err-number-clause-too_many
returns-in_err-number-clause-too_many c = λ e.
    let nodes : List Node = c.args.nodes.now in
    let ins : List ℕ = c.args.ins.now in
    let i : ℕ = c.loop-node.node-index in
    let node : Node = get_or nodes i Input in
    let table : List Node = c.loop-node.table in
    let before : List ℕ = c.loop-node.numbers.items in
    let err : c.place_node.result ≡ Err TooMany = search (rules, e, c.from_residual.ensures, c.in_err-number.is, c.branch-number.ensures) in
    let over : Overflows (placed_node table ins c.loop-node.taken before node).nodes =
    subst (λ (xs : List ℕ). Overflows (placed_node table ins c.loop-node.taken xs node).nodes) c.deref.ensures.value (c.place_node.ensures.too_many err) in
    let within : i < length nodes = search (rules, c.loop-node-test.true) in
    let cons : drop i nodes ≡ node ∷ drop (suc i) nodes = drop-cons nodes i Input within in
    let r : Numbered = placed_node table ins c.loop-node.taken before node in
    subst (λ (t : ClaimTerms). Overflows t.nodes) (sym c.loop-node.invariant.0)
    (subst (λ (more : List Node). Overflows (placed_from table ins c.loop-node.taken before more).nodes) (sym cons)
    (placed_over r.nodes ins (with_input node c.loop-node.taken) (before ++ r.number ∷ []) (drop (suc i) nodes) over))
