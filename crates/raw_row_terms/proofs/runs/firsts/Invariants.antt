use Rattle.std.proofs.Common.{◌≡◌, map}
use Rattle.std.specs.List.{range_with_len}
use Rattle.raw_stream.specs.Unrolled.{first}
use Rattle.raw_row_terms.proofs.runs.firsts.Given as goal

abbrev pub invariant-loop-port : goal.invariant-loop-port
invariant-loop-port l = record {
  items : l.firsts.items ≡ map (first l.stream) (range_with_len 0 l.port);
  sum : l.total ≡ first l.stream l.port;
}
