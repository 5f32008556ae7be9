use Rattle.std.proofs.Common.{◌≡◌}
use Rattle.std.specs.List.{flat_map, range_with_len}
use Rattle.raw_stream.specs.Streams.{due_at, valued}
use Rattle.raw_unroll.specs.Values.{row_at, AreNext, IsBefore}
use Rattle.raw_unroll.proofs.direct.direct_sink.Given as goal

abbrev pub invariant-loop-row : goal.invariant-loop-row
invariant-loop-row l = record {
  next : AreNext l.stream l.row 0 l.next.items;
  before : IsBefore l.stream l.words l.row l.before.items;
  got : l.got.items ≡ flat_map (λ r. valued (row_at l.stream l.words r) (due_at l.stream l.port)) (range_with_len 0 l.row);
}
