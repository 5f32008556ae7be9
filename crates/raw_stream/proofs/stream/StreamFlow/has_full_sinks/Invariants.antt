use Rattle.std.proofs.Common.{◌≡◌, ◌≤◌}
use Rattle.std.specs.Prelude.{sum_by}
use Rattle.std.specs.List.{range_with_len}
use Rattle.raw_model.specs.declared.limits.TheConstants.{MAX_ALL_CAPACITIES}
use Rattle.raw_stream.specs.Kept.{due_count}
use Rattle.raw_stream.proofs.stream.StreamFlow.has_full_sinks.Given as goal

abbrev pub invariant-loop-port : goal.invariant-loop-port
invariant-loop-port l = record {
  sum : l.total ≡ sum_by (due_count l.self) (range_with_len 0 l.port);
  few : l.total ≤ MAX_ALL_CAPACITIES;
}
