use Rattle.std.proofs.Common.{◌≡◌, ℕ, ◌+◌, ◌<◌, ◌≤◌, List, length, get_or, Some, sym, subst, ⊎_elim, arith}
use Rattle.std.specs.Prelude.{slice_get}
use Rattle.std.proofs.lemmas.Bool.{cases_lt}
use Rattle.std.proofs.lemmas.Option.{slice_get_within, get_or_from_slice_get}
use Rattle.raw_stream.specs.declared.row_node.RowNode.{RowNode}
use Rattle.raw_stream.specs.Streams.{IsRowNode}
use Rattle.raw_lengths.proofs.deciding.are_counters.Goals as goal

nodes_more : (nodes : List RowNode) (i : ℕ) (d : RowNode) → IsRowNode 0 (length nodes) i (get_or nodes i d) → ((v : ℕ) (node : RowNode) → v < i → slice_get nodes v ≡ Some node → IsRowNode 0 (length nodes) v node)
    → (v : ℕ) (node : RowNode) → v < i + 1 → slice_get nodes v ≡ Some node → IsRowNode 0 (length nodes) v node
nodes_more nodes i d is each v node below e =
    ⊎_elim (λ (earlier : v < i). each v node earlier e)
    (λ (past : i ≤ v).
    let same : v ≡ i = omega (arith, below, past) in
    let here : slice_get nodes i ≡ Some node = subst (λ (k : ℕ). slice_get nodes k ≡ Some node) same e in
    subst (λ (k : ℕ). IsRowNode 0 (length nodes) k node) (sym same) (subst (IsRowNode 0 (length nodes) i) (get_or_from_slice_get nodes i node d here) is))
    (cases_lt v i)

pub loop-place-preserved : goal.loop-place-preserved
loop-place-preserved c = nodes_more c.args.nodes.now c.loop-place.place _ (c.is_counter.ensures c.if-not-is_counter.false) c.loop-place.invariant

pub returns : goal.returns
returns c = λ _ v node e. c.loop-place.invariant v node (omega (arith, slice_get_within c.args.nodes.now v node e, c.loop-place-test.false)) e
