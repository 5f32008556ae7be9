use Rattle.std.proofs.Common.{◌≡◌, ◌≤◌}
use Rattle.std.specs.Prelude.{vec_len, vec_capacity}
use Rattle.raw_fabric.proofs.fabric.empty_logs.Given as goal

abbrev pub invariant-loop-worker : goal.invariant-loop-worker
invariant-loop-worker l = record {
  many : vec_len l.logs ≡ l.worker;
  room : l.workers ≤ vec_capacity l.logs;
}
