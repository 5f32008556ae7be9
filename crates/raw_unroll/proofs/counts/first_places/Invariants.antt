use Rattle.std.proofs.Common.{◌≡◌, ◌≤◌, map}
use Rattle.std.specs.List.{range_with_len}
use Rattle.raw_model.specs.declared.limits.TheConstants.{MAX_ALL_WORDS}
use Rattle.raw_stream.specs.Unrolled.{first}
use Rattle.raw_unroll.proofs.counts.first_places.Given as goal

abbrev pub invariant-loop-port : goal.invariant-loop-port
invariant-loop-port l = record {
  sum : l.total ≡ first l.stream l.port;
  few : l.total ≤ MAX_ALL_WORDS;
  places : l.places.items ≡ map (first l.stream) (range_with_len 0 l.port);
}
