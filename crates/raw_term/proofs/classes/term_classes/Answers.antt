use Rattle.std.proofs.Common.{rules, ◌≡◌, ℕ, ◌<◌, List, [], ◌∷◌, ◌++◌, length, sym, ap, ◌∙◌, subst, arith, length-append}
use Rattle.raw_flow.specs.declared.node.Node.{Node}
use Rattle.raw_term.specs.Classes.{AreClasses}
use Rattle.raw_term.proofs.classes.term_classes.Goals as goal

pub loop-number-preserved : goal.loop-number-preserved
loop-number-preserved c =
    let nodes : List Node = c.args.table.now in
    let items : List ℕ = c.loop-number.classes.items in
    let class : ℕ = c.in_ok-class.class in
    let same : length c.deref.result.now ≡ c.loop-number.number = ap (λ (xs : List ℕ). length xs) c.deref.ensures.value ∙ c.loop-number.invariant.1 in
    let less : c.loop-number.number < length nodes = search (rules, c.loop-number-test.true, c.len-number-end.ensures.value, c.loop-number.auto.number-end) in
    let old : AreClasses nodes c.loop-number.table c.deref.result.now = subst (λ (xs : List ℕ). AreClasses nodes c.loop-number.table xs) (sym c.deref.ensures.value) c.loop-number.invariant.0 in
    let more : AreClasses nodes c.class_of.new.table (c.deref.result.now ++ class ∷ []) = c.in_ok-class.ensures nodes (omega (arith, same, less)) old in
    let pushed : c.deref.result.now ++ class ∷ [] ≡ c.push.new.self.items = ap (λ (xs : List ℕ). xs ++ class ∷ []) c.deref.ensures.value ∙ sym c.in_ok-push.ensures.items in (
      subst (λ (xs : List ℕ). AreClasses nodes c.class_of.new.table xs) pushed more,
      omega (arith, ap (λ (xs : List ℕ). length xs) c.in_ok-push.ensures.items, length-append items (class ∷ []), c.loop-number.invariant.1),
    )
