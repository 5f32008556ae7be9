use Rattle.std.proofs.Common.{◌≡◌, ◌≤◌, take}
use Rattle.std.specs.Prelude.{sum_by}
use Rattle.raw_rows.specs.Given.{takes_words}
use Rattle.raw_cut.proofs.rows.row_width.Given as goal

abbrev pub invariant-loop-place : goal.invariant-loop-place
invariant-loop-place l = record {
  sum : l.count ≡ sum_by takes_words (take l.place l.row);
  few : l.count ≤ l.place;
}
