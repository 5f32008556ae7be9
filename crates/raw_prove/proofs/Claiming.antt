-- A claim has no more inputs than nodes, and as many terms; and what is said of it by classes.
use Rattle.std.proofs.Common.{◌≡◌, ℕ, ◌+◌, ◌<◌, ◌≤◌, List, [], ◌∷◌, ◌++◌, length, Ok, Err, sym, subst, ◌∙◌, ap, inr, ◌⊎◌, arith}
use Rattle.std.specs.Prelude.{Result, IfOk, map, slice_index}
use Rattle.std.specs.List.{All}
use Rattle.std.proofs.lemmas.List.{length_push}
use Rattle.raw_flow.specs.declared.node.Node.{Node}
use Rattle.raw_flow.specs.declared.node.Node.TheVariants.{Input}
use Rattle.raw_flow.specs.Flows.{with_input, inputs_in}
use Rattle.raw_term.specs.declared.verdict.Verdict.{Verdict}
use Rattle.raw_term.specs.declared.verdict.Verdict.TheVariants.{Differs}
use Rattle.raw_term.specs.Verdicts.{compared, ByClasses}
use Rattle.raw_term.specs.Classes.{AreClasses}
use Rattle.raw_term.specs.Claims.{ClaimTerms, claim_node, claim_from}

one_more : (node : Node) (k n : ℕ) → k ≤ n → with_input node k ≤ n + 1
one_more Input k n h = omega (arith, h)
one_more _ k n h = omega (arith, h)

pub inputs_few : (nodes : List Node) → inputs_in nodes ≤ length nodes
inputs_few [] = omega arith
inputs_few (node ∷ nodes) = let h = one_more node (inputs_in nodes) (length nodes) (inputs_few nodes) in omega (arith, h)

pub numbers_many : (table : List Node) (k : ℕ) (before : List ℕ) (nodes : List Node) → length (claim_from table k before nodes).numbers ≡ length before + length nodes
numbers_many table k before [] = omega arith
numbers_many table k before (node ∷ nodes) =
    let more = numbers_many (claim_node table k before node).nodes (with_input node k) (before ++ (claim_node table k before node).number ∷ []) nodes in
    let pushed = length_push before (claim_node table k before node).number in
    omega (arith, more, pushed)

pub numbers_of : (table later : List Node) (nodes : List Node) (numbers : List ℕ) → claim_from table 0 [] nodes ≡ record { nodes = later; numbers = numbers } → length numbers ≡ length nodes
numbers_of table later nodes numbers e =
    let many = numbers_many table 0 [] nodes in
    let same = ap (λ (c : ClaimTerms). length c.numbers) e in
    omega (arith, many, same)

pub outs_within : (n : ℕ) (outs own numbers others : List ℕ) → own ≡ outs → others ≡ numbers → length numbers ≡ n → All (λ v. v < n) outs → All (λ v. v < length others) own
outs_within n outs own numbers others eo en many all =
    subst (λ (xs : List ℕ). All (λ v. v < length others) xs) (sym eo) (subst (λ k. All (λ v. v < k) outs) (sym (ap length en ∙ many)) all)

-- what is said by classes
pub classes_told : {E : Type 0} (nodes : List Node) (got wanted : List ℕ) (k : ℕ) (table : List Node) (classes own : List ℕ) → AreClasses nodes table classes → length classes ≡ length nodes → own ≡ classes
    → (r : Result Verdict E) → IfOk r (λ v. v ≡ compared table 0 (map (slice_index own) got) (map (slice_index own) wanted)) → IfOk r (λ v. (v ≡ Differs k) ⊎ ByClasses nodes got wanted v)
classes_told nodes got wanted k table classes own are each mine (Err e) h = tt
classes_told nodes got wanted k table classes own are each mine (Ok v) h = inr (record {
  table = table;
  classes = own;
  are = subst (λ cs. AreClasses nodes table cs) (sym mine) are;
  each = ap length mine ∙ each;
  is = h;
})
