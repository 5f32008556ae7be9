-- Kernels, one after another.
use Rattle.std.proofs.Common.{◌≡◌, ℕ, suc, ◌+◌, ◌*◌, ◌<◌, ◌≤◌, List, [], ap, subst, ⊎_elim, arith, ◌∙◌}
use Rattle.std.proofs.lemmas.Bool.{cases_lt}
use Rattle.std.proofs.Math.Nat.{suc-mul}
use Rattle.raw_flow.specs.declared.node.Node.{Node}
use Rattle.raw_flow.specs.Flows.{values_from}
use Rattle.raw_stream.specs.declared.row_node.RowNode.{RowNode}
use Rattle.raw_stream.specs.Streams.{Stream}
use Rattle.raw_rows.specs.Lengths.{counted}
use Rattle.raw_lengths.specs.Looks.{AreSome}
use Rattle.raw_lengths.specs.Proofs.{AreCounted}

-- the rows of a kernel more
pub rows_more : (first k rows : ℕ) → first + k * rows + rows ≡ first + (k + 1) * rows
rows_more first k rows =
    let one : k + 1 ≡ suc k = omega arith in
    let all : (k + 1) * rows ≡ k * rows + rows = ap (λ (n : ℕ). n * rows) one ∙ suc-mul k rows in
    omega (arith, all)

-- a kernel more in which no look is 0
pub counted_more : (counters : List RowNode) (looks : List Node) (places : List ℕ) (first rows k : ℕ) (now values : List ℕ) → AreCounted counters looks places first rows k
    → ((s : Stream) → now ≡ counted s counters (first + k * rows)) → values ≡ values_from now 0 [] looks → AreSome values places → AreCounted counters looks places first rows (k + 1)
counted_more counters looks places first rows k now values before now_is values_are some s j below =
    ⊎_elim (λ (early : j < k). before s j early)
    (λ (past : k ≤ j).
    let same : k ≡ j = omega (arith, below, past) in
    subst (λ (n : ℕ). AreSome (values_from (counted s counters (first + n * rows)) 0 [] looks) places) same
    (subst (λ (words : List ℕ). AreSome (values_from words 0 [] looks) places) (now_is s) (subst (λ (vs : List ℕ). AreSome vs places) values_are some)))
    (cases_lt j k)
