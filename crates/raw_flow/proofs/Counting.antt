-- How many inputs there are.
use Rattle.std.proofs.Common.{◌≡◌, ℕ, zero, suc, ◌+◌, ◌<◌, ◌≤◌, List, [], ◌∷◌, ◌++◌, length, get_or, take, Some, refl, ap, ◌∙◌, arith, take-suc, add-one}
use Rattle.std.specs.Prelude.{slice_get}
use Rattle.raw_flow.specs.declared.node.Node.{Node}
use Rattle.raw_flow.specs.declared.node.Node.TheVariants.{Input, Const, Apply}
use Rattle.raw_flow.specs.Flows.{with_input, inputs_in}

pub few_inputs : (nodes : List Node) → inputs_in nodes ≤ length nodes
few_inputs [] = omega arith
few_inputs (Input ∷ nodes) = omega (arith, few_inputs nodes)
few_inputs (Const w ∷ nodes) = omega (arith, few_inputs nodes)
few_inputs (Apply op a b ∷ nodes) = omega (arith, few_inputs nodes)

-- among the first i
pub few_taken : (nodes : List Node) (i : ℕ) → inputs_in (take i nodes) ≤ i
few_taken [] zero = omega arith
few_taken [] (suc i) = omega arith
few_taken (node ∷ nodes) zero = omega arith
few_taken (Input ∷ nodes) (suc i) = omega (arith, few_taken nodes i)
few_taken (Const w ∷ nodes) (suc i) = omega (arith, few_taken nodes i)
few_taken (Apply op a b ∷ nodes) (suc i) = omega (arith, few_taken nodes i)

pub one_more : (node : Node) (k : ℕ) → with_input node k ≤ k + 1
one_more Input k = omega arith
one_more _ k = omega arith

pub no_less : (node : Node) (k : ℕ) → k ≤ with_input node k
no_less Input k = omega arith
no_less _ k = omega arith

either_first : (x y : Node) (k : ℕ) → with_input x (with_input y k) ≡ with_input y (with_input x k)
either_first Input Input k = refl
either_first Input (Const w) k = refl
either_first Input (Apply op a b) k = refl
either_first (Const w) y k = refl
either_first (Apply op a b) y k = refl

pub inputs_push : (nodes : List Node) (x : Node) → inputs_in (nodes ++ x ∷ []) ≡ with_input x (inputs_in nodes)
inputs_push [] x = refl
inputs_push (y ∷ nodes) x = ap (with_input y) (inputs_push nodes x) ∙ either_first y x (inputs_in nodes)

-- with one node more
pub inputs_next : (nodes : List Node) (i : ℕ) (d : Node) → i < length nodes → inputs_in (take (i + 1) nodes) ≡ with_input (get_or nodes i d) (inputs_in (take i nodes))
inputs_next nodes i d h =
    let e : take (i + 1) nodes ≡ take i nodes ++ get_or nodes i d ∷ [] = rw add-one (take-suc nodes i d h) in
    ap inputs_in e ∙ inputs_push (take i nodes) (get_or nodes i d)

-- before an input there are fewer than in all
pub few_before : (nodes : List Node) (i : ℕ) → inputs_in (take i nodes) ≤ inputs_in nodes
few_before [] zero = omega arith
few_before [] (suc i) = omega arith
few_before (node ∷ nodes) zero = omega arith
few_before (Input ∷ nodes) (suc i) = omega (arith, few_before nodes i)
few_before (Const w ∷ nodes) (suc i) = few_before nodes i
few_before (Apply op a b ∷ nodes) (suc i) = few_before nodes i

pub before_input : (nodes : List Node) (i : ℕ) → slice_get nodes i ≡ Some Input → inputs_in (take i nodes) < inputs_in nodes
before_input [] i e = cc e
before_input (Input ∷ nodes) zero e = omega arith
before_input (Const w ∷ nodes) zero e = cc e
before_input (Apply op a b ∷ nodes) zero e = cc e
before_input (Input ∷ nodes) (suc i) e = omega (arith, before_input nodes i e)
before_input (Const w ∷ nodes) (suc i) e = before_input nodes i e
before_input (Apply op a b ∷ nodes) (suc i) e = before_input nodes i e
