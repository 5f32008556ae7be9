use Rattle.std.proofs.Common.{◌≡◌, map, drop}
use Rattle.std.specs.List.{range_with_len}
use Rattle.raw_stream.specs.Unrolled.{first}
use Rattle.raw_stream_choice.specs.StreamSets.{source_program}
use Rattle.raw_stream_choice.proofs.ports.source_ports.Given as goal

abbrev pub invariant-loop-port : goal.invariant-loop-port
invariant-loop-port l =
    (l.ports.items ≡ map (source_program l.stream l.words) (range_with_len 0 l.port)) × (l.left ≡ drop (first l.stream l.port) l.words)
