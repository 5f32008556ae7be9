use Rattle.std.proofs.Common.{rules, ◌≡◌, ℕ, suc, ◌<◌, List, ◌∷◌, length, drop, get_or, Err, sym, subst, drop-cons}
use Rattle.raw_flow.specs.declared.node.Node.{Node}
use Rattle.raw_flow.specs.declared.node.Node.TheVariants.{Input}
use Rattle.raw_term.specs.declared.refusal.TermRefusal.TheVariants.{TooMany}
use Rattle.raw_term.specs.Terms.{Overflows}
use Rattle.raw_term.specs.Claims.{ClaimTerms, claim_node, claim_from}
use Rattle.raw_term.proofs.Longer.{claim_over}
use Rattle.raw_term.proofs.claim.claim_terms.Goals as goal

pub returns-in_err-number-clause-too_many : goal.returns-in_err-number-clause-too_many
returns-in_err-number-clause-too_many c = λ e.
    let nodes : List Node = c.args.nodes.now in
    let i : ℕ = c.loop-node.node-index in
    let node : Node = get_or nodes i Input in
    let table : List Node = c.loop-node.table in
    let before : List ℕ = c.loop-node.numbers.items in
    let err : c.claim_node.result ≡ Err TooMany = search (rules, e, c.from_residual.ensures, c.in_err-number.is, c.branch-number.ensures) in
    let over : Overflows (claim_node table c.loop-node.taken before node).nodes =
    subst (λ (xs : List ℕ). Overflows (claim_node table c.loop-node.taken xs node).nodes) c.deref.ensures.value (c.claim_node.ensures.too_many err) in
    let within : i < length nodes = search (rules, c.loop-node-test.true) in
    let cons : drop i nodes ≡ node ∷ drop (suc i) nodes = drop-cons nodes i Input within in
    subst (λ (r : ClaimTerms). Overflows r.nodes) (sym c.loop-node.invariant.0)
    (subst (λ (more : List Node). Overflows (claim_from table c.loop-node.taken before more).nodes) (sym cons)
    (claim_over table c.loop-node.taken before node (drop (suc i) nodes) over))
