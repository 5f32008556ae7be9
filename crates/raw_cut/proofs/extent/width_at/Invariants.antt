use Rattle.std.proofs.Common.{◌≡◌, ◌≤◌, take}
use Rattle.std.specs.Prelude.{sum_by}
use Rattle.raw_stream.specs.Unrolled.{takes}
use Rattle.raw_cut.proofs.extent.width_at.Given as goal

abbrev pub invariant-loop-place : goal.invariant-loop-place
invariant-loop-place l = record {
  sum : l.count ≡ sum_by (takes l.port) (take l.place l.row);
  few : l.count ≤ l.place;
}
