use Rattle.std.proofs.Common.{ℕ, ◌<◌}
use Rattle.raw_cycle.specs.Cycles.{OnNone}
use Rattle.raw_cycle.proofs.cycle.find_cycle.Given as goal

abbrev pub invariant-loop-p : goal.invariant-loop-p
invariant-loop-p g l = (q : ℕ) → q < l.p → OnNone (g.W.Waits.next l.waits) q
