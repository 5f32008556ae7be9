use Rattle.std.proofs.Common.{◌≡◌, ℕ, ◌<◌, ◌≤◌, List, length, Some, cond, sym, ap, ◌∙◌, subst, arith, rules}
use Rattle.std.proofs.lemmas.List.{length-replicate}
use Rattle.std.specs.HashMap.{get}
use Rattle.raw_flow.specs.declared.node.Node.{Node}
use Rattle.raw_flow.specs.declared.node.Node.TheVariants.{Input, Const}
use Rattle.raw_term.specs.declared.limits.TheConstants.{MAX_TERMS}
use Rattle.raw_term.specs.TermMachine.{first_nodes}
use Rattle.raw_term.specs.Places.{Key, key_of, same_key, ArePlaces}
use Rattle.raw_term.proofs.Places.{first_places}
use Rattle.raw_term.proofs.table.TermTable.open.Goals as goal

pub invariant_of-result : goal.invariant_of-result
invariant_of-result c =
    let inputs : ℕ = c.args.inputs in
    let key : c.key_of.result ≡ key_of (Const 0) = c.key_of.ensures in
    let few : inputs < MAX_TERMS = search (rules, c.if-inputs-ge-MAX_TERMS.false) in
    let updates = c.in_ok-insert.ensures.updates.0 in
    let many : length (first_nodes inputs) ≤ MAX_TERMS = omega (arith, few, length-replicate inputs Input) in (
      subst (λ (xs : List Node). ArePlaces xs c.insert.new.self) (sym c.in_ok-nodes.ensures)
          (first_places inputs c.new-places.result c.insert.new.self c.new-places.ensures.empty
          (λ q. updates q ∙ ap (λ (k : Key). cond (same_key k q) (Some 0) (get same_key c.new-places.result q)) key)),
      subst (λ (xs : List Node). length xs ≤ MAX_TERMS) (sym c.in_ok-nodes.ensures) many,
    )
