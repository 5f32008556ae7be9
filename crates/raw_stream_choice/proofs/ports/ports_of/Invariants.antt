use Rattle.std.proofs.Common.{◌≡◌, ◌++◌, map, length}
use Rattle.std.specs.List.{range_with_len}
use Rattle.raw_stream_choice.specs.StreamSets.{source_program, sink_program}
use Rattle.raw_stream_choice.proofs.ports.ports_of.Given as goal

abbrev pub invariant-loop-port : goal.invariant-loop-port
invariant-loop-port l =
    l.ports.items ≡ map (source_program l.stream l.words) (range_with_len 0 (length l.stream.sources)) ++ map (sink_program l.stream) (range_with_len 0 l.port)
