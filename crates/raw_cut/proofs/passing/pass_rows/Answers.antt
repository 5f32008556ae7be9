use Rattle.std.proofs.Common.{rules, ◌≡◌, ℕ, ◌+◌, List, [], ◌∷◌, ◌++◌, map, drop, sym, ap, ◌∙◌}
use Rattle.std.proofs.lemmas.List.{drop_all, map-append}
use Rattle.raw_flow.specs.declared.node.Node.{Node}
use Rattle.raw_stream.specs.Streams.{Stream, valued, next_nodes}
use Rattle.raw_row_terms.specs.RowTerms.{RowTerms, placed_row, row_terms}
use Rattle.raw_cut.specs.Parts.{behind}
use Rattle.raw_cut.proofs.Inputs.{next_row, rows_then, rows_end}
use Rattle.raw_cut.proofs.passing.pass_rows.Goals as goal

pub loop-row-preserved : goal.loop-row-preserved
loop-row-preserved c =
    let s : Stream = c.args.stream.now in
    let i : ℕ = c.loop-row.row-index in
    let rows = c.args.rows.now in
    let row = c.row-item.result in
    let whole : RowTerms = row_terms s c.args.table.now c.args.first.items (map (λ row. row.items) rows) in
    let values : List (List ℕ) = map (λ row. row.items) c.loop-row.values.items in
    let rest : List (List ℕ) = map (λ row. row.items) (drop (i + 1) rows) in
    let now : List Node = c.loop-row.table in
    let carried : List ℕ = c.loop-row.carried.items in
    let next : List ℕ = c.in_ok-carried-in-Ok.carried.items in
    let numbers : List ℕ = c.in-Ok.numbers.items in
    let split : map (λ row. row.items) (drop i rows) ≡ row.items ∷ rest = ap (map (λ row. row.items)) (next_row rows i row c.loop-row-test.true c.row-item.is) in
    let e : whole ≡ behind values (row_terms s now carried (row.items ∷ rest)) = c.loop-row.invariant ∙ ap (λ (ws : List (List ℕ)). behind values (row_terms s now carried ws)) split in
    let more : map (λ row. row.items) c.push.new.self.items ≡ values ++ numbers ∷ [] =
    ap (map (λ row. row.items)) c.in_ok-push-in-Ok.ensures.items ∙ map-append (λ row. row.items) c.loop-row.values.items (c.in-Ok.numbers ∷ []) in
    let nodes_are : c.deref-in-loop-row.result.now ≡ s.nodes = search rules in
    let carried_are : c.deref-in-loop-row-3.result.now ≡ carried = search rules in
    let words_are : c.deref-in-loop-row-4.result.now ≡ row.items = search rules in
    let placed : placed_row s.nodes now carried row.items ≡ record { nodes = c.place_row.new.table; numbers = numbers } =
    sym (λ i. placed_row (nodes_are i) now (carried_are i) (words_are i)) ∙ c.in-Ok.ensures.numbers in
    let next_is : next ≡ valued numbers (next_nodes s) = search rules in
    rows_then s whole values now c.place_row.new.table carried next row.items numbers rest e placed next_is
    ∙ ap (λ (vs : List (List ℕ)). behind vs (row_terms s c.place_row.new.table next rest)) (sym more)

pub returns : goal.returns
returns c =
    let rows = c.args.rows.now in
    let whole : RowTerms = row_terms c.args.stream.now c.args.table.now c.args.first.items (map (λ row. row.items) rows) in
    rows_end c.args.stream.now whole (map (λ row. row.items) c.loop-row.values.items) c.loop-row.table c.loop-row.carried.items (map (λ row. row.items) (drop c.loop-row.row-index rows))
    (ap (map (λ row. row.items)) (drop_all c.loop-row.row-index rows c.loop-row-test.false)) c.loop-row.invariant
