use Rattle.std.proofs.Common.{◌≡◌, ◌+◌, ◌-◌, ◌≤◌, length, drop}
use Rattle.raw_text.specs.Lines.{runs_of}
use Rattle.raw_debug.proofs.tokens.count_runs.Given as goal

abbrev pub invariant-runs : goal.invariant-runs
invariant-runs l = record {
  so_far : l.count + length (runs_of (drop l.at l.bytes)) ≡ length (runs_of l.bytes);
  within : l.at ≤ length l.bytes + 1;
  few : l.count ≤ l.at;
}

abbrev pub decreases-runs : goal.decreases-runs
decreases-runs l = length l.bytes + 1 - l.at
