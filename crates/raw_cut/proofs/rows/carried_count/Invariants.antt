use Rattle.std.proofs.Common.{◌≡◌, ◌≤◌, length, take}
use Rattle.std.specs.List.{filter_map}
use Rattle.raw_stream.specs.Streams.{first_of}
use Rattle.raw_cut.proofs.rows.carried_count.Given as goal

abbrev pub invariant-loop-place : goal.invariant-loop-place
invariant-loop-place l = record {
  count : l.count ≡ length (filter_map first_of (take l.place l.row));
  few : l.count ≤ l.place;
}
