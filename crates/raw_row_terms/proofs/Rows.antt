-- Rows one by one: their terms, and what ports are due of them.
use Rattle.std.proofs.Common.{◌≡◌, ℕ, suc, ◌+◌, ◌-◌, ◌<◌, Bool, true, false, cond, List, [], ◌∷◌, ◌++◌, map, Some, None, refl, sym, ap, ◌∙◌, subst, arith, append_assoc}
use Rattle.std.specs.Prelude.{◌==◌, slice_index}
use Rattle.std.specs.List.{filter_map, cons_option, flat_map, range_with_len}
use Rattle.std.proofs.lemmas.List.Elements.{filter_map-append}
use Rattle.raw_flow.specs.declared.node.Node.{Node}
use Rattle.raw_stream.specs.declared.out.StreamOut.{StreamOut}
use Rattle.raw_stream.specs.Streams.{Stream, plain_nodes, taken, valued, next_nodes, due_of, due_at, due_to}
use Rattle.raw_term.specs.Terms.{Overflows}
use Rattle.raw_term.specs.Claims.{ClaimTerms}
use Rattle.raw_row_terms.specs.RowTerms.{placed_row, RowTerms, with_row, row_terms}
use Rattle.raw_row_terms.specs.RowClaims.{row_numbers, terms_from, due_in}
use Rattle.raw_row_terms.specs.OutTerms.{outs_in, outs_of_rows}
use Rattle.raw_row_terms.proofs.Longer.{placed_over}

-- ---- terms
pub rows_step : (s : Stream) (r : ℕ) (nodes : List Node) (carried : List ℕ) → r < s.count
    → terms_from s r nodes carried ≡ with_row (placed_row s.nodes nodes carried (row_numbers s r)).numbers
    (terms_from s (r + 1) (placed_row s.nodes nodes carried (row_numbers s r)).nodes (valued (placed_row s.nodes nodes carried (row_numbers s r)).numbers (next_nodes s)))
rows_step s r nodes carried lt =
    let one : s.count - r ≡ suc (s.count - (r + 1)) = omega (arith, lt) in
    ap (λ n. row_terms s nodes carried (map (row_numbers s) (range_with_len r n))) one

pub rows_over : (s : Stream) (nodes : List Node) (carried : List ℕ) (rows : List (List ℕ)) → Overflows nodes → Overflows (row_terms s nodes carried rows).nodes
rows_over s nodes carried [] over = over
rows_over s nodes carried (words ∷ rows) over =
    let c : ClaimTerms = placed_row s.nodes nodes carried words in
    rows_over s c.nodes (valued c.numbers (next_nodes s)) rows (placed_over nodes (taken s.nodes carried words) 0 [] (plain_nodes s) over)

pub row_over : (s : Stream) (r : ℕ) (nodes : List Node) (carried : List ℕ) → r < s.count → Overflows (placed_row s.nodes nodes carried (row_numbers s r)).nodes → Overflows (terms_from s r nodes carried).nodes
row_over s r nodes carried lt over =
    let c : ClaimTerms = placed_row s.nodes nodes carried (row_numbers s r) in
    subst (λ (t : RowTerms). Overflows t.nodes) (sym (rows_step s r nodes carried lt))
    (rows_over s c.nodes (valued c.numbers (next_nodes s)) (map (row_numbers s) (range_with_len (r + 1) (s.count - (r + 1)))) over)

-- a row, and what it leaves
module _ (s : Stream) (r : ℕ) (lt : r < s.count) (nodes after : List Node) (carried numbers next : List ℕ)
    (is : placed_row s.nodes nodes carried (row_numbers s r) ≡ record { nodes = after; numbers = numbers }) (next_is : next ≡ valued numbers (next_nodes s)) where
  row_then : terms_from s r nodes carried ≡ with_row numbers (terms_from s (r + 1) after next)
  row_then =
      rows_step s r nodes carried lt
      ∙ ap (λ (c : ClaimTerms). with_row c.numbers (terms_from s (r + 1) c.nodes (valued c.numbers (next_nodes s)))) is
      ∙ ap (λ xs. with_row numbers (terms_from s (r + 1) after xs)) (sym next_is)

  pub nodes_then : (whole : List Node) → (terms_from s r nodes carried).nodes ≡ whole → (terms_from s (r + 1) after next).nodes ≡ whole
  nodes_then whole e = sym (ap (λ (t : RowTerms). t.nodes) row_then) ∙ e

  pub outs_then : (outs more whole : List StreamOut) → more ≡ outs ++ outs_in s.outs numbers → outs ++ outs_of_rows s (terms_from s r nodes carried).values ≡ whole
      → more ++ outs_of_rows s (terms_from s (r + 1) after next).values ≡ whole
  outs_then outs more whole pushed e =
      let rest : List StreamOut = outs_of_rows s (terms_from s (r + 1) after next).values in
      ap (λ os. os ++ rest) pushed
      ∙ append_assoc outs (outs_in s.outs numbers) rest
      ∙ ap (λ (t : RowTerms). outs ++ outs_of_rows s t.values) (sym row_then)
      ∙ e

-- ---- what ports are due
due_in_row : (q : ℕ) (row : List ℕ) (outs : List StreamOut) → filter_map (due_of q) (outs_in outs row) ≡ valued row (filter_map (due_of q) outs)
due_in_row q row [] = refl
due_in_row q row (out ∷ outs) = by (out.port == q) (due_in_row q row outs) where
  by : (b : Bool) → filter_map (due_of q) (outs_in outs row) ≡ valued row (filter_map (due_of q) outs)
      → cons_option (cond b (Some (slice_index row out.node)) None) (filter_map (due_of q) (outs_in outs row)) ≡ valued row (cons_option (cond b (Some out.node) None) (filter_map (due_of q) outs))
  by true rest = ap (λ xs. slice_index row out.node ∷ xs) rest
  by false rest = rest

due_of_rows : (s : Stream) (q : ℕ) (values : List (List ℕ)) → filter_map (due_of q) (outs_of_rows s values) ≡ due_to s q values
due_of_rows s q [] = refl
due_of_rows s q (row ∷ values) =
    filter_map-append (due_of q) (outs_in s.outs row) (outs_of_rows s values)
    ∙ ap (λ xs. xs ++ filter_map (due_of q) (outs_of_rows s values)) (due_in_row q row s.outs)
    ∙ ap (λ xs. valued row (due_at s q) ++ xs) (due_of_rows s q values)

pub due_in_order : (s : Stream) (values : List (List ℕ)) (order : List ℕ) → flat_map (λ q. filter_map (due_of q) (outs_of_rows s values)) order ≡ due_in s order values
due_in_order s values [] = refl
due_in_order s values (q ∷ order) =
    ap (λ xs. xs ++ flat_map (λ p. filter_map (due_of p) (outs_of_rows s values)) order) (due_of_rows s q values) ∙ ap (λ xs. due_to s q values ++ xs) (due_in_order s values order)
