-- A table only grows: one that has too many terms on the way has too many at the end.
use Rattle.std.proofs.Common.{ℕ, List, [], ◌∷◌, ◌++◌}
use Rattle.std.specs.Prelude.{slice_index}
use Rattle.raw_flow.specs.declared.node.Node.{Node}
use Rattle.raw_flow.specs.declared.node.Node.TheVariants.{Input, Const, Apply}
use Rattle.raw_flow.specs.Flows.{with_input}
use Rattle.raw_term.specs.Terms.{Overflows, Numbered}
use Rattle.raw_term.proofs.Longer.{claim_over}
use Rattle.raw_row_terms.specs.RowTerms.{placed_node, placed_from}

node_over : (nodes : List Node) (ins : List ℕ) (k : ℕ) (before : List ℕ) (node : Node) → Overflows nodes → Overflows (placed_node nodes ins k before node).nodes
node_over nodes ins k before Input over = over
node_over nodes ins k before (Const word) over = claim_over nodes 0 [] Input (Const word ∷ []) over
node_over nodes ins k before (Apply op a b) over = claim_over nodes 0 (slice_index before a ∷ slice_index before b ∷ []) Input (Apply op 0 1 ∷ []) over

pub placed_over : (nodes : List Node) (ins : List ℕ) (k : ℕ) (before : List ℕ) (more : List Node) → Overflows nodes → Overflows (placed_from nodes ins k before more).nodes
placed_over nodes ins k before [] over = over
placed_over nodes ins k before (node ∷ more) over =
    let r : Numbered = placed_node nodes ins k before node in
    placed_over r.nodes ins (with_input node k) (before ++ r.number ∷ []) more (node_over nodes ins k before node over)
