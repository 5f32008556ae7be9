use Rattle.std.proofs.Common.{◌≡◌, map, drop}
use Rattle.raw_row_terms.specs.RowTerms.{row_terms}
use Rattle.raw_cut.specs.Parts.{behind}
use Rattle.raw_cut.proofs.passing.pass_rows.Given as goal

abbrev pub invariant-loop-row : goal.invariant-loop-row
invariant-loop-row l = row_terms l.stream l.initial.table l.fn.first.items (map (λ row. row.items) l.rows)
    ≡ behind (map (λ row. row.items) l.values.items) (row_terms l.stream l.table l.carried.items (map (λ row. row.items) (drop l.row-index l.rows)))
