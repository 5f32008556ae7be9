-- A table only grows.
use Rattle.std.proofs.Common.{ℕ, ◌≤◌, List, [], ◌∷◌, ◌++◌, length, Option, Some, None, arith, le_trans, length-append}
use Rattle.std.specs.Prelude.{slice_index}
use Rattle.raw_flow.specs.declared.node.FlowOp.{FlowOp}
use Rattle.raw_flow.specs.declared.node.Node.{Node}
use Rattle.raw_flow.specs.declared.node.Node.TheVariants.{Input, Const, Apply}
use Rattle.raw_flow.specs.Flows.{with_input}
use Rattle.raw_term.specs.declared.form.Form.{Form}
use Rattle.raw_term.specs.declared.form.Form.TheVariants.{Same, Word, Both, With}
use Rattle.raw_term.specs.declared.action.Operand.{Operand}
use Rattle.raw_term.specs.declared.action.Operand.TheVariants.{Immediate}
use Rattle.raw_term.specs.Terms.{Overflows, place_from, Numbered, placed, with_node, form_of, with_form, made}
use Rattle.raw_term.specs.TermRows.{term_at, made_second}
use Rattle.raw_term.specs.Claims.{claim_node, claim_from}

node_longer : (nodes : List Node) (node : Node) → length nodes ≤ length (with_node nodes node).nodes
node_longer nodes node = by (place_from 0 nodes node) where
  by : (o : Option ℕ) → length nodes ≤ length (placed nodes node o).nodes
  by None = omega (arith, length-append nodes (node ∷ []))
  by (Some v) = omega arith

form_longer : (nodes : List Node) (f : Form) → length nodes ≤ length (with_form nodes f).nodes
form_longer nodes (Same a) = omega arith
form_longer nodes (Word w) = node_longer nodes (Const w)
form_longer nodes (Both op a b) = node_longer nodes (Apply op a b)
form_longer nodes (With op a w) =
    let r : Numbered = with_node nodes (Const w) in le_trans (node_longer nodes (Const w)) (node_longer r.nodes (Apply op a r.number))

made_longer : (nodes : List Node) (op : FlowOp) (a b : ℕ) → length nodes ≤ length (made nodes op a b).nodes
made_longer nodes op a b = form_longer nodes (form_of nodes op a b)

operand_longer : (nodes : List Node) (operand : Operand) (a b : ℕ) → length nodes ≤ length (term_at nodes operand a b).nodes
operand_longer nodes (Immediate word) a b = node_longer nodes (Const word)
operand_longer nodes _ a b = omega arith

claim_node_longer : (nodes : List Node) (k : ℕ) (before : List ℕ) (node : Node) → length nodes ≤ length (claim_node nodes k before node).nodes
claim_node_longer nodes k before Input = omega arith
claim_node_longer nodes k before (Const word) = node_longer nodes (Const word)
claim_node_longer nodes k before (Apply op a b) = made_longer nodes op (slice_index before a) (slice_index before b)

claim_longer : (nodes : List Node) (k : ℕ) (before : List ℕ) (more : List Node) → length nodes ≤ length (claim_from nodes k before more).nodes
claim_longer nodes k before [] = omega arith
claim_longer nodes k before (node ∷ more) =
    let r : Numbered = claim_node nodes k before node in
    le_trans (claim_node_longer nodes k before node) (claim_longer r.nodes (with_input node k) (before ++ r.number ∷ []) more)

-- so what is too many at a part of the way is too many at its end
pub claim_over : (nodes : List Node) (k : ℕ) (before : List ℕ) (node : Node) (more : List Node) → Overflows (claim_node nodes k before node).nodes → Overflows (claim_from nodes k before (node ∷ more)).nodes
claim_over nodes k before node more over =
    let r : Numbered = claim_node nodes k before node in
    omega (arith, over, claim_longer r.nodes (with_input node k) (before ++ r.number ∷ []) more)

pub second_over : (f : FlowOp) (second : Operand) (a b : ℕ) (r : Numbered) → Overflows (term_at r.nodes second a b).nodes → Overflows (made_second f second a b r).nodes
second_over f second a b r over = omega (arith, over, made_longer (term_at r.nodes second a b).nodes f r.number (term_at r.nodes second a b).number)

pub first_over : (f : FlowOp) (second : Operand) (a b : ℕ) (r : Numbered) → Overflows r.nodes → Overflows (made_second f second a b r).nodes
first_over f second a b r over = second_over f second a b r (omega (arith, over, operand_longer r.nodes second a b))
