use Rattle.std.proofs.Common.{◌≡◌, ◌+◌, ◌-◌, ◌≤◌, length, drop}
use Rattle.std.specs.Prelude.{slice_get}
use Rattle.raw_text.specs.Lines.{runs_of}
use Rattle.raw_debug.proofs.tokens.run_at.Given as goal

abbrev pub invariant-runs : goal.invariant-runs
invariant-runs l = record {
  so_far : slice_get (runs_of (drop l.at l.bytes)) l.left ≡ slice_get (runs_of l.bytes) l.place;
  within : l.at ≤ length l.bytes + 1;
}

abbrev pub decreases-runs : goal.decreases-runs
decreases-runs l = length l.bytes + 1 - l.at
