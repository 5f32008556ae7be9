use Rattle.std.proofs.Common.{◌≡◌, List, ◌∷◌, [], length, None, Some, cond, sym, ap, ◌∙◌, subst, arith, rules, length-append, ◌<◌}
use Rattle.std.specs.HashMap.{get}
use Rattle.raw_flow.specs.declared.node.Node.{Node}
use Rattle.raw_term.specs.declared.limits.TheConstants.{MAX_TERMS}
use Rattle.raw_term.specs.Places.{Key, key_of, same_key, ArePlaces}
use Rattle.raw_term.proofs.Places.{places_more}
use Rattle.raw_term.proofs.table.TermTable.number_of.Goals as goal

pub invariant_of-self-in-Ok : goal.invariant_of-self-in-Ok
invariant_of-self-in-Ok c =
    let nodes : List Node = c.self.inside.nodes.items in
    let key : c.key_of-key.result ≡ key_of c.args.node = c.key_of-key.ensures in
    let many : c.len-number.result ≡ length nodes = search (rules, c.len-number.ensures) in
    let none : get same_key c.self.inside.places c.key_of-key.result ≡ None = sym c.in_default.ensures.value in
    let few : length nodes < MAX_TERMS = search (rules, c.if-len.false, c.len.ensures) in
    let updates = c.in-Ok.ensures.updates.0 in (
      subst (λ (xs : List Node). ArePlaces xs c.insert.new.self) (sym c.in_ok-push.ensures.items)
          (places_more nodes c.args.node c.self.inside.places c.insert.new.self c.requires c.self.invariant.0
          (subst (λ (k : Key). get same_key c.self.inside.places k ≡ None) key none)
          (λ q. updates q ∙ ap (λ (k : Key). cond (same_key k q) (Some c.len-number.result) (get same_key c.self.inside.places q)) key
          ∙ ap (λ n. cond (same_key (key_of c.args.node) q) (Some n) (get same_key c.self.inside.places q)) many)),
      omega (arith, few, ap (λ (xs : List Node). length xs) c.in_ok-push.ensures.items, length-append nodes (c.args.node ∷ [])),
    )
