use Rattle.std.proofs.Common.{◌≤◌, ◌-◌, length}
use Rattle.raw_whole.specs.Kept.{AreNoTurns}
use Rattle.raw_whole.proofs.turns.no_turns.Given as goal

abbrev pub invariant-procs : goal.invariant-procs
invariant-procs l = AreNoTurns (length l.all.items) l.all.items × (length l.all.items ≤ l.fn.procs)

abbrev pub decreases-procs : goal.decreases-procs
decreases-procs l = l.fn.procs - length l.all.items
