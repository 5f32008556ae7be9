use Rattle.std.proofs.Common.{◌≡◌, ℕ, ◌+◌, ◌<◌, ◌≤◌, List, get_or, Some, sym, subst, ⊎_elim, arith}
use Rattle.std.specs.Prelude.{slice_get}
use Rattle.std.proofs.lemmas.Bool.{cases_lt}
use Rattle.std.proofs.lemmas.Option.{slice_get_within, get_or_from_slice_get}
use Rattle.raw_flow.specs.declared.node.Node.{Node}
use Rattle.raw_flow.specs.Flows.{IsNode}
use Rattle.raw_cut.proofs.nodes.are_nodes.Goals as goal

nodes_more : (nodes : List Node) (i : ℕ) (d : Node) → IsNode i (get_or nodes i d) → ((v : ℕ) (node : Node) → v < i → slice_get nodes v ≡ Some node → IsNode v node)
    → (v : ℕ) (node : Node) → v < i + 1 → slice_get nodes v ≡ Some node → IsNode v node
nodes_more nodes i d is each v node below e =
    ⊎_elim (λ (earlier : v < i). each v node earlier e)
    (λ (past : i ≤ v).
    let same : v ≡ i = omega (arith, below, past) in
    let here : slice_get nodes i ≡ Some node = subst (λ (k : ℕ). slice_get nodes k ≡ Some node) same e in
    subst (λ (k : ℕ). IsNode k node) (sym same) (subst (IsNode i) (get_or_from_slice_get nodes i node d here) is))
    (cases_lt v i)

pub loop-place-preserved : goal.loop-place-preserved
loop-place-preserved c = nodes_more c.args.nodes.now c.loop-place.place _ (c.is_node.ensures c.if-not-is_node.false) c.loop-place.invariant

pub returns : goal.returns
returns c = λ _ v node e. c.loop-place.invariant v node (omega (arith, slice_get_within c.args.nodes.now v node e, c.loop-place-test.false)) e
