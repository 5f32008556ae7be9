use Rattle.std.proofs.Common.{rules, ◌≡◌, ℕ, ◌<◌, ◌++◌, List, map, Err, sym, ap, ◌∙◌, subst, arith}
use Rattle.raw_flow.specs.declared.node.Node.{Node}
use Rattle.raw_stream.specs.Streams.{Stream, valued, next_nodes}
use Rattle.raw_term.specs.declared.refusal.TermRefusal.TheVariants.{TooMany}
use Rattle.raw_term.specs.Terms.{Overflows}
use Rattle.raw_term.specs.Claims.{ClaimTerms}
use Rattle.raw_row_terms.specs.RowTerms.{placed_row}
use Rattle.raw_row_terms.specs.RowClaims.{row_numbers, terms_from}
use Rattle.raw_row_terms.specs.WordRuns.{number_in}
use Rattle.raw_row_terms.specs.OutTerms.{outs_in, outs_of_rows}
use Rattle.raw_row_terms.proofs.Words.{row_is}
use Rattle.raw_row_terms.proofs.Rows.{row_over, nodes_then, outs_then}
use Rattle.raw_row_terms.proofs.claiming.outs_from.Goals as goal

pub returns-in_err-numbers-clause-too_many : goal.returns-in_err-numbers-clause-too_many
returns-in_err-numbers-clause-too_many c = λ e.
    let s : Stream = c.args.stream.now in
    let r : ℕ = c.loop-row.row in
    let table : List Node = c.loop-row.table in
    let carried : List ℕ = c.loop-row.carried.items in
    let lt : r < s.count = omega (arith, ap (λ (x : Stream). x.count) c.stream.view_is) in
    let nodes_are : c.deref.result.now ≡ s.nodes = search rules in
    let carried_is : c.deref-in-loop-row.result.now ≡ carried = search rules in
    let counted : c.deref-in-loop-row-2.result.now ≡ map (number_in r) c.args.runs.now = search rules in
    let words_are : c.deref-in-loop-row-2.result.now ≡ row_numbers s r = counted ∙ ap (map (number_in r)) c.requires.runs ∙ row_is s r in
    let err : c.place_row.result ≡ Err TooMany = search (rules, e, c.from_residual-in_err-numbers.ensures, c.in_err-numbers.is, c.branch-numbers.ensures) in
    let placed : placed_row c.deref.result.now table c.deref-in-loop-row.result.now c.deref-in-loop-row-2.result.now ≡ placed_row s.nodes table carried (row_numbers s r) =
    λ i. placed_row (nodes_are i) table (carried_is i) (words_are i) in
    let over : Overflows (placed_row s.nodes table carried (row_numbers s r)).nodes = subst (λ (t : ClaimTerms). Overflows t.nodes) placed (c.place_row.ensures.too_many err) in
    subst (λ (ns : List Node). Overflows ns) c.loop-row.invariant.nodes (row_over s r table carried lt over)

pub loop-row-preserved : goal.loop-row-preserved
loop-row-preserved c =
    let s : Stream = c.args.stream.now in
    let r : ℕ = c.loop-row.row in
    let table : List Node = c.loop-row.table in
    let carried : List ℕ = c.loop-row.carried.items in
    let numbers : List ℕ = c.in_ok-numbers.numbers.items in
    let lt : r < s.count = omega (arith, ap (λ (x : Stream). x.count) c.stream.view_is) in
    let nodes_are : c.deref.result.now ≡ s.nodes = search rules in
    let carried_is : c.deref-in-loop-row.result.now ≡ carried = search rules in
    let counted : c.deref-in-loop-row-2.result.now ≡ map (number_in r) c.args.runs.now = search rules in
    let words_are : c.deref-in-loop-row-2.result.now ≡ row_numbers s r = counted ∙ ap (map (number_in r)) c.requires.runs ∙ row_is s r in
    let placed : placed_row c.deref.result.now table c.deref-in-loop-row.result.now c.deref-in-loop-row-2.result.now ≡ placed_row s.nodes table carried (row_numbers s r) =
    λ i. placed_row (nodes_are i) table (carried_is i) (words_are i) in
    let is : placed_row s.nodes table carried (row_numbers s r) ≡ record { nodes = c.place_row.new.table; numbers = numbers } = sym placed ∙ c.in_ok-numbers.ensures.numbers in
    let next_is : c.in_ok-carried.carried.items ≡ valued numbers (next_nodes s) = search rules in
    let pushed : c.push_outs.new.all.items ≡ c.loop-row.outs.items ++ outs_in s.outs numbers = search rules in
    record {
      nodes = nodes_then s r lt table c.place_row.new.table carried numbers c.in_ok-carried.carried.items is next_is (terms_from s 0 c.args.table.now c.args.first.items).nodes c.loop-row.invariant.nodes;
      outs = outs_then s r lt table c.place_row.new.table carried numbers c.in_ok-carried.carried.items is next_is c.loop-row.outs.items c.push_outs.new.all.items
          (outs_of_rows s (terms_from s 0 c.args.table.now c.args.first.items).values) pushed c.loop-row.invariant.outs;
    }
