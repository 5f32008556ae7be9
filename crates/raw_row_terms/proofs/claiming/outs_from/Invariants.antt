use Rattle.std.proofs.Common.{◌≡◌, ◌++◌}
use Rattle.raw_row_terms.specs.RowClaims.{terms_from}
use Rattle.raw_row_terms.specs.OutTerms.{outs_of_rows}
use Rattle.raw_row_terms.proofs.claiming.outs_from.Given as goal

abbrev pub invariant-loop-row : goal.invariant-loop-row
invariant-loop-row l = record {
  nodes : (terms_from l.stream l.row l.table l.carried.items).nodes ≡ (terms_from l.stream 0 l.initial.table l.fn.first.items).nodes;
  outs : l.outs.items ++ outs_of_rows l.stream (terms_from l.stream l.row l.table l.carried.items).values
      ≡ outs_of_rows l.stream (terms_from l.stream 0 l.initial.table l.fn.first.items).values;
}
