use Rattle.std.proofs.Common.{◌≡◌, ◌++◌, map, take}
use Rattle.std.specs.Prelude.{slice_index}
use Rattle.std.specs.List.{filter_map}
use Rattle.raw_stream.specs.Streams.{due_of}
use Rattle.raw_unroll.proofs.direct.add_row.Given as goal

abbrev pub invariant-loop-number : goal.invariant-loop-number
invariant-loop-number l = l.got.items ≡ l.initial.got.items ++ map (slice_index l.values) (filter_map (due_of l.port) (take l.number l.stream.outs))
