use Rattle.std.proofs.Common.{◌≡◌}
use Rattle.raw_refute.proofs.row_answering.by_runs.Given as goal

abbrev pub invariant-lists : goal.invariant-lists
invariant-lists l = l.set ≡ l.fn.set
