use Rattle.std.proofs.Common.{◌≡◌, ◌++◌, map, take}
use Rattle.std.specs.List.{filter_map}
use Rattle.raw_stream.specs.Streams.{due_of}
use Rattle.raw_stream.specs.Unrolled.{place}
use Rattle.raw_unroll.proofs.outs.add_row.Given as goal

abbrev pub invariant-loop-number : goal.invariant-loop-number
invariant-loop-number l = l.outs.items ≡ l.initial.outs.items ++ map (place l.stream l.row) (filter_map (due_of l.port) (take l.number l.stream.outs))
