use Rattle.std.proofs.Common.{◌≡◌, ◌≤◌, length, take}
use Rattle.std.specs.List.{filter_map}
use Rattle.raw_stream.specs.Streams.{due_of}
use Rattle.raw_stream.proofs.stream.StreamFlow.due_len.Given as goal

abbrev pub invariant-loop-place : goal.invariant-loop-place
invariant-loop-place l = record {
  count : l.count ≡ length (filter_map (due_of l.port) (take l.place l.self.outs));
  few : l.count ≤ l.place;
}
