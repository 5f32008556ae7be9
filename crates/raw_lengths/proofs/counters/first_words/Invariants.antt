use Rattle.std.proofs.Common.{◌≡◌, ◌++◌, drop}
use Rattle.std.specs.List.{filter_map}
use Rattle.raw_stream.specs.Streams.{first_of}
use Rattle.raw_lengths.proofs.counters.first_words.Given as goal

abbrev pub invariant-loop-node : goal.invariant-loop-node
invariant-loop-node l = l.words.items ++ filter_map first_of (drop l.node-index l.counters) ≡ filter_map first_of l.counters
