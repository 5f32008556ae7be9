-- The terms of rows, row by row, and the numbers of their words.
use Rattle.std.proofs.Common.{◌≡◌, ℕ, zero, suc, ◌+◌, ◌*◌, ◌^◌, ◌<◌, ◌≤◌, List, [], ◌∷◌, ◌++◌, length, get_or, take, drop, refl, sym, ap, ◌∙◌, subst, arith, append_assoc, length-append, drop-cons}
use Rattle.std.specs.List.{filter_map, range_with_len}
use Rattle.std.proofs.Math.Nat.{mul-le-mul_right, suc-mul}
use Rattle.std.proofs.lemmas.List.{take_more, append-nil}
use Rattle.std.proofs.lemmas.List.Elements.{filter_map-append}
use Rattle.raw_flow.specs.declared.node.Node.{Node}
use Rattle.raw_stream.specs.declared.row_node.RowNode.{RowNode}
use Rattle.raw_stream.specs.declared.row_node.RowNode.TheVariants.{Input, Const, Apply, Pre}
use Rattle.raw_stream.specs.Streams.{Stream, first_of, first_words, valued, next_nodes}
use Rattle.raw_term.specs.Claims.{ClaimTerms}
use Rattle.raw_row_terms.specs.RowTerms.{placed_row, RowTerms, with_row, row_terms}
use Rattle.raw_rows.specs.Given.{row_width}
use Rattle.raw_rows.specs.Kernels.{input_rows, open_rows}
use Rattle.raw_cut.specs.Parts.{behind, carried_by}

-- a row more
module _ (s : Stream) (whole : RowTerms) where
  pub rows_then : (values : List (List ℕ)) (nodes later : List Node) (carried next words numbers : List ℕ) (rest : List (List ℕ)) → whole ≡ behind values (row_terms s nodes carried (words ∷ rest))
      → placed_row s.nodes nodes carried words ≡ record { nodes = later; numbers = numbers } → next ≡ valued numbers (next_nodes s)
      → whole ≡ behind (values ++ numbers ∷ []) (row_terms s later next rest)
  rows_then values nodes later carried next words numbers rest e placed is_next =
      e
      ∙ ap (λ (c : ClaimTerms). behind values (with_row c.numbers (row_terms s c.nodes (valued c.numbers (next_nodes s)) rest))) placed
      ∙ ap (λ (cs : List ℕ). behind values (with_row numbers (row_terms s later cs rest))) (sym is_next)
      ∙ joins (row_terms s later next rest)
    where
      joins : (r : RowTerms) → behind values (with_row numbers r) ≡ behind (values ++ numbers ∷ []) r
      joins r = λ i. record { nodes = r.nodes; carried = r.carried; values = (sym (append_assoc values (numbers ∷ []) r.values)) i }

  -- none is left
  pub rows_end : (values : List (List ℕ)) (nodes : List Node) (carried : List ℕ) (rest : List (List ℕ)) → rest ≡ [] → whole ≡ behind values (row_terms s nodes carried rest)
      → whole ≡ record { nodes = nodes; carried = carried; values = values }
  rows_end values nodes carried rest none e =
      e ∙ ap (λ (ws : List (List ℕ)). behind values (row_terms s nodes carried ws)) none ∙ (λ i. record { nodes = nodes; carried = carried; values = (append-nil values) i })

-- a row of numbers more
pub inputs_then : (xs : List (List ℕ)) (whole : List (List ℕ)) (next width left : ℕ) (row : List ℕ) → xs ++ input_rows next width (suc left) ≡ whole → row ≡ range_with_len next width
    → (xs ++ row ∷ []) ++ input_rows (next + width) width left ≡ whole
inputs_then xs whole next width left row e is =
    append_assoc xs (row ∷ []) (input_rows (next + width) width left)
    ∙ ap (λ r. xs ++ r ∷ input_rows (next + width) width left) is
    ∙ e

-- a node more
one_first : (node : RowNode) → length (filter_map first_of (node ∷ [])) ≡ carried_by node
one_first (Input q) = refl
one_first (Const word) = refl
one_first (Apply op a b) = refl
one_first (Pre a word) = refl

pub first_more : (row : List RowNode) (i : ℕ) (d : RowNode) → i < length row
    → length (filter_map first_of (take (i + 1) row)) ≡ length (filter_map first_of (take i row)) + carried_by (get_or row i d)
first_more row i d below =
    let node = get_or row i d in
    ap (λ xs. length (filter_map first_of xs)) (take_more row i d below)
    ∙ ap length (filter_map-append first_of (take i row) (node ∷ []))
    ∙ length-append (filter_map first_of (take i row)) (filter_map first_of (node ∷ []))
    ∙ ap (λ n. length (filter_map first_of (take i row)) + n) (one_first node)

pub carried_one : (node : RowNode) → carried_by node ≤ 1
carried_one (Input q) = omega arith
carried_one (Const word) = omega arith
carried_one (Apply op a b) = omega arith
carried_one (Pre a word) = omega arith

-- where the numbers of a row begin
pub row_fits : (first r width many next : ℕ) → next ≡ first + r * width → r < many → first + many * width < 2 ^ 32 → next + width < 2 ^ 32
row_fits first r width many next is below few =
    let more : suc r ≤ many = omega (arith, below) in
    let most : suc r * width ≤ many * width = mul-le-mul_right width more in
    let parts : suc r * width ≡ r * width + width = suc-mul r width in
    omega (arith, is, few, most, parts)

pub row_next : (first r width next : ℕ) → next ≡ first + r * width → next + width ≡ first + (r + 1) * width
row_next first r width next is =
    let same : suc r ≡ r + 1 = omega arith in
    let parts : suc r * width ≡ r * width + width = suc-mul r width in
    let here : next + width ≡ first + suc r * width = omega (arith, is, parts) in
    subst (λ k. next + width ≡ first + k * width) same here

-- how many rows these are
pub count_rows : (from width n : ℕ) → length (input_rows from width n) ≡ n
count_rows from width zero = refl
count_rows from width (suc n) = omega (arith, count_rows (from + width) width n)

-- the rows that a run sees
pub rows_open : (s : Stream) (first width many : ℕ) (rows : List (List ℕ)) → rows ≡ input_rows first width many → first ≡ 1 + length (first_words s) → width ≡ row_width s → rows ≡ open_rows s many
rows_open s first width many rows is begins wide =
    is ∙ ap (λ (f : ℕ). input_rows f width many) begins ∙ ap (λ (w : ℕ). input_rows (1 + length (first_words s)) w many) wide

pub many_rows : (rows : List (List ℕ)) (first width many : ℕ) → rows ≡ input_rows first width many → length rows ≡ many
many_rows rows first width many is = ap length is ∙ count_rows first width many

-- what is left of a list
pub next_row : {A : Type 0} (rows : List A) (i : ℕ) (row : A) → i < length rows → row ≡ get_or rows i row → drop i rows ≡ row ∷ drop (i + 1) rows
next_row rows i row below is =
    let more : suc i ≡ i + 1 = omega arith in
    drop-cons rows i row below ∙ ap (λ x. x ∷ drop (suc i) rows) (sym is) ∙ ap (λ k. row ∷ drop k rows) more
